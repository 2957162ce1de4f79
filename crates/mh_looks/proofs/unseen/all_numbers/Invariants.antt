use Rattle.std.proofs.Common.{drop}
use Rattle.mh_sequences.specs.Sequences.{member}
use Rattle.message_lines.specs.Standings.{is_marked_in}
use Rattle.mh_looks.proofs.UnseenNumbers.{IsUnited}
use Rattle.mh_looks.proofs.unseen.all_numbers.Given as goal

abbrev pub invariant-loop-name : goal.invariant-loop-name
invariant-loop-name l = IsUnited (is_marked_in (member l.sequences.users) l.names) (member l.sequences.users) l.pile (drop l.name-index l.names)
