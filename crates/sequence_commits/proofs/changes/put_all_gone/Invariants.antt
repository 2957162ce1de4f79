use Rattle.std.proofs.Common.{◌≡◌, ◌++◌, filter, map, take}
use Rattle.sequence_commits.specs.PrivateChanges.{entry_names, gone, is_left_over}
use Rattle.sequence_commits.proofs.changes.put_all_gone.Given as goal

abbrev pub invariant-loop-index : goal.invariant-loop-index
invariant-loop-index l = l.changes ≡ l.fn.changes ++ map gone (filter (is_left_over l.ending l.kept) (take l.index (entry_names l.seen)))
