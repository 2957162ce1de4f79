use Rattle.std.proofs.Common.{rules}
use Rattle.folder_room.specs.Left.{failed_of}
use Rattle.folder_room.proofs.Coursing.{dead_step_now}
use Rattle.folder_room.proofs.Finishing.{dead_ends}
use Rattle.folder_room.proofs.course.Course.finish.Goals as goal

pub returns-then-is_dead-clause-now : goal.returns-then-is_dead-clause-now
returns-then-is_dead-clause-now c = λ start n.
    dead_step_now start c.args.self.now.world c.fail.new.self.world c.args.self.now.history c.fail.new.self.history c.args.run c.args.step.now n (search rules) c.in_ok-fail.ensures.ok.0 c.in_ok-fail.ensures.ok.1

pub returns-then-is_dead-clause-ok : goal.returns-then-is_dead-clause-ok
returns-then-is_dead-clause-ok c = λ start n.
    dead_ends start c.args.self.now.world c.args.self.now.history c.fail.new.self.history c.args.run c.args.step.now (failed_of c.args.fail) n (search rules) c.in_ok-fail.ensures.ok.0
