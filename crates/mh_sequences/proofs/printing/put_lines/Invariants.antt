use Rattle.std.proofs.Common.{◌≡◌, ◌++◌, map, filter}
use Rattle.mh_profile.specs.Printing.{printed}
use Rattle.mh_sequences.specs.Printing.{entry_of, is_shown}
use Rattle.mh_sequences.specs.Sequences.{told_entry}
use Rattle.mh_sequences.proofs.printing.put_lines.Given as goal

abbrev pub invariant-loop-name : goal.invariant-loop-name
invariant-loop-name l =
    l.text ++ printed (map entry_of (filter (is_shown l.before) (map told_entry l.name-iterator)))
    ≡ l.fn.text ++ printed (map entry_of (filter (is_shown l.before) (map told_entry l.users.entries)))
