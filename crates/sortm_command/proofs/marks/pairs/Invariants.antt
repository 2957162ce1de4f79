use Rattle.std.proofs.Common.{◌≡◌, ◌++◌, drop}
use Rattle.sortm_plans.specs.Marking.{pairs_of}
use Rattle.sortm_command.proofs.marks.pairs.Given as goal

abbrev pub invariant-loop-i : goal.invariant-loop-i
invariant-loop-i l = l.pairs ++ pairs_of (drop l.i l.moves) (drop l.i l.ends) ≡ pairs_of l.moves l.ends
