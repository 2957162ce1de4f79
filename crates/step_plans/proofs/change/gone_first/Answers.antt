use Rattle.std.proofs.Common.{◌≡◌, ◌+◌, [], ◌∷◌, ◌++◌, length, drop, map, ap, sym, arith, ◌∙◌, length-append}
use Rattle.std.proofs.lemmas.List.{map-append}
use Rattle.mh_profile.specs.Changes.{without_all}
use Rattle.step_plans.specs.ContextCommit.{changed}
use Rattle.step_plans.proofs.ContextChanges.{one_gone}
use Rattle.step_plans.proofs.change.gone_first.Goals as goal

pub loop-change-preserved : goal.loop-change-preserved
loop-change-preserved c =
    let old = map (λ n. n.now) c.loop-change.names.items in
    let i = c.loop-change.change-index in
    let put : map (λ n. n.now) c.push.new.self.items ≡ old ++ c.change-item.result.name ∷ [] =
    ap (map (λ n. n.now)) c.in_ok-push.ensures.items ∙ map-append (λ n. n.now) c.loop-change.names.items (c.as_slice.result ∷ []) ∙ ap (λ n. old ++ n ∷ []) c.as_slice.ensures in
    let size = ap length put ∙ length-append old (c.change-item.result.name ∷ []) in
    let lt = c.loop-change-test.true in
    let before = c.loop-change.invariant.0 in (
      omega (arith, size, before),
      omega (arith, lt),
      λ es. one_gone c.args.changes.now i c.change-item.result old lt c.change-item.is (sym c.is_some.ensures ∙ c.if-is_some.false) c.loop-change.invariant.2 es
          ∙ ap (λ ns. changed (drop (i + 1) c.args.changes.now) (without_all ns es)) (sym put),
    )
