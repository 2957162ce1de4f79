use Rattle.std.proofs.Common.{◌≡◌, length}
use Rattle.mh_profile.specs.Lines.{folded_lines}
use Rattle.mh_profile.specs.Reading.{entries_in, listed}
use Rattle.mh_profile.proofs.EntryLists.{more_of}
use Rattle.mh_profile.proofs.entries.Entries.read.Given as goal

abbrev pub invariant-loop-rest : goal.invariant-loop-rest
invariant-loop-rest l = more_of l.entries (listed (folded_lines l.rest)) ≡ entries_in l.bytes

abbrev pub decreases-loop-rest : goal.decreases-loop-rest
decreases-loop-rest l = length l.rest
