use Rattle.std.proofs.Common.{rules}
use Rattle.folder_room.proofs.Coursing.{either_way, both_same, dead_step_now, answered_now}
use Rattle.folder_room.proofs.Finishing.{acts_dead, acts_live}
use Rattle.folder_room.proofs.course.Course.act_other.Goals as goal

pub returns-then-is_dead-clause-now : goal.returns-then-is_dead-clause-now
returns-then-is_dead-clause-now c = λ start n.
    either_way c.fail.result c.fail.ensures.ok c.fail.ensures.err
    (λ p. dead_step_now start c.args.self.now.world c.fail.new.self.world c.args.self.now.history c.fail.new.self.history c.args.other c.args.step.now n (search rules) p.0 p.1)
    (λ e. both_same start c.args.self.now c.fail.new.self e n)

pub returns-in_err-answer-clause-now : goal.returns-in_err-answer-clause-now
returns-in_err-answer-clause-now c = λ start n. both_same start c.args.self.now c.answer.new.self (search rules) n

pub returns-clause-now : goal.returns-clause-now
returns-clause-now c = λ start n.
    answered_now start c.args.self.now.world c.answer.new.self.world c.args.self.now.history c.answer.new.self.history c.args.other c.args.step.now c.in_ok-answer.field-0 n (search rules) c.in_ok-answer.ensures.fits c.in_ok-answer.ensures.ok.0 c.in_ok-answer.ensures.ok.1

pub returns-then-is_dead-clause-ok : goal.returns-then-is_dead-clause-ok
returns-then-is_dead-clause-ok c = λ start n. acts_dead start c.args.self.now c.fail.new.self c.args.other c.args.step.now c.fail.result n (search rules) c.fail.ensures.ok

pub returns-clause-ok : goal.returns-clause-ok
returns-clause-ok c = λ start n.
    acts_live start c.args.self.now c.answer.new.self c.args.other c.args.step.now c.in_ok-answer.field-0 n (search rules) c.in_ok-answer.ensures.fits c.in_ok-answer.ensures.honest c.in_ok-answer.ensures.ok.0
