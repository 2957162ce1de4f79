use Rattle.std.proofs.Common.{◌≡◌, ◌++◌, drop}
use Rattle.std.specs.Prelude.{map}
use Rattle.sequence_commits.specs.PlainMarks.{plain_mark}
use Rattle.pick_plans.specs.Marking.{mark_with}
use Rattle.pick_command.proofs.marks.marks_on.Given as goal

abbrev pub invariant-loop-name : goal.invariant-loop-name
invariant-loop-name l = map plain_mark l.all ++ map (mark_with l.marks.act l.marks.public l.numbers.runs) (drop l.name-index l.name-items) ≡ map (mark_with l.marks.act l.marks.public l.numbers.runs) l.name-items
