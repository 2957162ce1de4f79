use Rattle.std.proofs.Common.{◌≡◌, ◌++◌, drop}
use Rattle.std.specs.Prelude.{map}
use Rattle.sequence_commits.specs.PlainMarks.{plain_mark}
use Rattle.inc_plans.specs.Inc.{add_mark, add_marks}
use Rattle.inc_command.proofs.marks.push_additions.Given as goal

abbrev pub invariant-loop-name : goal.invariant-loop-name
invariant-loop-name l = map plain_mark l.marks ++ map (add_mark l.numbers.runs) (drop l.name-index l.names) ≡ map plain_mark l.fn.marks ++ add_marks l.numbers.runs l.names
