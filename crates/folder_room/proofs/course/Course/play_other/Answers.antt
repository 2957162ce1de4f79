use Rattle.std.proofs.Common.{rules, inl, inr}
use Rattle.std.proofs.lemmas.Result.{on_ok_weaker}
use Rattle.folder_room.specs.Played.{skips, acts}
use Rattle.folder_room.proofs.Coursing.{is_false}
use Rattle.folder_room.proofs.course.Course.play_other.Goals as goal

pub returns-then-other-run-clause-ok : goal.returns-then-other-run-clause-ok
returns-then-other-run-clause-ok c = λ start n. skips c.args.other c.args.step.now (inl (search rules))

pub returns-then-not-is_careful-clause-ok : goal.returns-then-not-is_careful-clause-ok
returns-then-not-is_careful-clause-ok c = λ start n. skips c.args.other c.args.step.now (inr (λ h. is_false c.in_ok-is_careful.is_careful (search rules) (c.in_ok-is_careful.ensures.1 h)))

pub returns-clause-ok : goal.returns-clause-ok
returns-clause-ok c = λ start n.
    on_ok_weaker c.act_other.result
    (λ d. acts c.args.other c.args.step.now (search rules) (c.in_ok-is_careful.ensures.0 (search rules)) d)
    (c.act_other.ensures.ok start n)
