use Rattle.std.proofs.Common.{◌≡◌, take}
use Rattle.sequence_commits.specs.Marking.{marked_by_all}
use Rattle.sequence_commits.proofs.marking.mark_all.Given as goal

abbrev pub invariant-loop-mark : goal.invariant-loop-mark
invariant-loop-mark l = l.sequences ≡ marked_by_all (take l.mark-index l.marks) l.fn.sequences
