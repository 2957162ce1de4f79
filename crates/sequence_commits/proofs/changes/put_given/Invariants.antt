use Rattle.std.proofs.Common.{◌≡◌, ◌++◌, map, take}
use Rattle.sequence_commits.specs.PrivateChanges.{given}
use Rattle.sequence_commits.proofs.changes.put_given.Given as goal

abbrev pub invariant-loop-entry : goal.invariant-loop-entry
invariant-loop-entry l = l.changes ≡ l.fn.changes ++ map given (take l.entry-index l.entries)
