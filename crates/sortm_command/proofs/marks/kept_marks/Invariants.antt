use Rattle.std.proofs.Common.{◌≡◌, ◌++◌, map}
use Rattle.mh_sequences.specs.Sequences.{told_entry}
use Rattle.sequence_commits.specs.PlainMarks.{plain_mark}
use Rattle.sortm_plans.specs.Marking.{set_again}
use Rattle.sortm_command.proofs.marks.kept_marks.Given as goal

abbrev pub invariant-loop-name : goal.invariant-loop-name
invariant-loop-name l = map plain_mark l.marks ++ map set_again (map told_entry l.name-iterator) ≡ map set_again l.sequences.users
