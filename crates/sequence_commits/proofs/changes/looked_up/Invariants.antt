use Rattle.std.proofs.Common.{◌≡◌, [], take}
use Rattle.sequence_commits.specs.FolderEntries.{set_all}
use Rattle.sequence_commits.proofs.changes.looked_up.Given as goal

abbrev pub invariant-loop-entry : goal.invariant-loop-entry
invariant-loop-entry l = l.found ≡ set_all (take l.entry-index l.entries) []
