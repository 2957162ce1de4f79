use Rattle.std.proofs.Common.{◌≡◌, ℕ, rules, ap, ◌∙◌}
use Rattle.std.specs.List.{list_any}
use Rattle.std.proofs.lemmas.Iterator.Consumers.{YieldsList-end}
use Rattle.std.proofs.lemmas.Iterator.Splits.{YieldsList-from_slice_split}
use Rattle.mh_sequences.specs.Lists.{lists, run_has, run_in}
use Rattle.mh_sequences.specs.Runs.{has}
use Rattle.mh_sequences.proofs.Bools.{any_ok, if_ok_then}
use Rattle.mh_sequences.proofs.lists.read_list.Goals as goal
use Rattle.mh_base.specs.Characters.{is_blank}

pub returns : goal.returns
returns c =
    if_ok_then _ _ (λ s. (n : ℕ) → has s.runs n ≡ lists c.args.text.now n) c.into_set.result (λ s set all n. set n ∙ all n)
    c.into_set.ensures.numbers (any_ok (λ s. (n : ℕ) → has c.loop-item.numbers n ≡ lists c.args.text.now n) c.into_set.result (λ _ n.
    let same = c.into_iter-item-iterator.ensures in
    let all = YieldsList-end (YieldsList-from_slice_split _ is_blank c.args.text.now (cc) (cc) (cc) (λ x b q k. search rules)) c.loop-item.yielded _ c.loop-item.yielded_by _ _ c.in-None.is c.next.ensures.steps in
    c.loop-item.invariant n ∙ ap (list_any (λ item. run_has (run_in item) n)) all.0))
