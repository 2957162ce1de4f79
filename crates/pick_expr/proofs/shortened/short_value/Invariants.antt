use Rattle.std.proofs.Common.{◌≤◌, drop, []}
use Rattle.std.specs.Prelude.{Some}
use Rattle.pick_expr.specs.Skipping.{Gives, value_behind}
use Rattle.pick_expr.specs.Values.{fresh, value_of}
use Rattle.pick_expr.proofs.shortened.short_value.Given as goal

abbrev pub invariant-loop-word : goal.invariant-loop-word
invariant-loop-word l =
    Gives (Some (value_of l.message l.words fresh [])) (value_behind l.message l.shortened.skipped (drop l.word-index l.words) l.shortened.evaluation.frame l.shortened.evaluation.around)
    × (l.shortened.skipped ≤ l.word-index)
