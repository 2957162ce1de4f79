use Rattle.std.proofs.Common.{◌≡◌, drop}
use Rattle.sequence_commits.specs.Telling.{same_entries}
use Rattle.sequence_commits.proofs.telling.same_entries.Given as goal

abbrev pub invariant-loop-index : goal.invariant-loop-index
invariant-loop-index l = same_entries l.some l.others ≡ same_entries (drop l.index l.some) (drop l.index l.others)
