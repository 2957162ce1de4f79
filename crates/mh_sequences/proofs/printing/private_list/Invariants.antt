use Rattle.std.proofs.Common.{◌≡◌, ◌++◌, map}
use Rattle.mh_sequences.specs.Printing.{private_entries}
use Rattle.mh_sequences.specs.Sequences.{told_entry}
use Rattle.mh_sequences.proofs.printing.private_list.Given as goal

abbrev pub invariant-loop-name : goal.invariant-loop-name
invariant-loop-name l = l.entries ++ private_entries l.ending (map told_entry l.name-iterator) ≡ private_entries l.ending (map told_entry l.users.entries)
