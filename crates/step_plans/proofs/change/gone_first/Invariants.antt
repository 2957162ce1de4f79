use Rattle.std.proofs.Common.{◌≡◌, ◌≤◌, List, drop, length, map}
use Rattle.mh_profile.specs.Changes.{without_all}
use Rattle.mh_profile.specs.declared.named_value.NamedValue.{NamedValue}
use Rattle.step_plans.specs.ContextCommit.{changed}
use Rattle.step_plans.proofs.change.gone_first.Given as goal

abbrev pub invariant-loop-change : goal.invariant-loop-change
invariant-loop-change l =
    (length (map (λ n. n.now) l.names.items) ≡ l.change-index)
    × (l.change-index ≤ length l.changes)
    × ((es : List NamedValue) → changed l.changes es ≡ changed (drop l.change-index l.changes) (without_all (map (λ n. n.now) l.names.items) es))
