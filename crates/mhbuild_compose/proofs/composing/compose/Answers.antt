use Rattle.std.proofs.Common.{ap, ◌∙◌, sym, subst, List, ℕ, length}
use Rattle.mhbuild_compose.specs.Keys.{AreKeys, takes_any}
use Rattle.mhbuild_compose.specs.Messages.{opened}
use Rattle.mhbuild_compose.specs.Roots.{all_nodes}
use Rattle.mhbuild_compose.proofs.Composed.{composed}
use Rattle.mhbuild_compose.proofs.composing.compose.Goals as goal

pub returns : goal.returns
returns c =
    let nodes = c.in_ok-nodes.ensures ∙ (λ i. all_nodes ((c.as_slice.ensures ∙ c.items.ensures) i) (c.as_slice-2.ensures i)) in
    let keys = c.in_ok-keys.ensures in
    composed c.write_nodes.result c.args.draft.now.fields c.args.draft.now.items c.args.givens.now c.args.run c.as_slice-6.result.now c.as_slice-3.result.now c.as_slice-4.result.now c.as_slice-7.result.now c.as_slice-8.result.now c.in_ok-out.out
    (c.as_slice-6.ensures.value ∙ nodes) (c.as_slice-3.ensures.value ∙ nodes) (c.as_slice-4.ensures.value ∙ nodes) (c.as_slice-7.ensures ∙ c.in_ok-flags.ensures)
    (subst (λ (x : List ℕ). AreKeys (takes_any c.args.run c.as_slice-4.result.now) 0 x) (sym c.as_slice-8.ensures.value) keys.keys) (ap length c.as_slice-8.ensures.value ∙ keys.count)
    (c.in_ok-out.ensures ∙ ap opened (c.as_slice-5.ensures ∙ c.fields.ensures)) c.write_nodes.ensures
