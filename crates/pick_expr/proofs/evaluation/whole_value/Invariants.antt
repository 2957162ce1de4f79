use Rattle.std.proofs.Common.{◌≡◌, drop, []}
use Rattle.pick_expr.specs.Values.{fresh, value_of}
use Rattle.pick_expr.proofs.evaluation.whole_value.Given as goal

abbrev pub invariant-loop-word : goal.invariant-loop-word
invariant-loop-word l = value_of l.message (drop l.word-index l.words) l.evaluation.frame l.evaluation.around ≡ value_of l.message l.words fresh []
