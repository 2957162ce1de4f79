use Rattle.std.proofs.Common.{map}
use Rattle.mh_sequences.specs.Changes.{change_of}
use Rattle.mh_sequences.specs.Sequences.{told, told_entry}
use Rattle.mh_sequences.proofs.Changing.{IsSoFar}
use Rattle.mh_sequences.proofs.change.change_all.Given as goal

abbrev pub invariant-loop-name : goal.invariant-loop-name
invariant-loop-name l = IsSoFar (change_of l.change) (map told_entry l.users.entries) (map told l.kept.items) (map told_entry l.name-iterator)
