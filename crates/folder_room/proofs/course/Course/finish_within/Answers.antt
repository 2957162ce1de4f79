use Rattle.folder_room.proofs.Coursing.{within_now}
use Rattle.folder_room.proofs.Finishing.{within_ends}
use Rattle.folder_room.proofs.course.Course.finish_within.Goals as goal

pub returns-clause-now : goal.returns-clause-now
returns-clause-now c = λ start n.
    let p = c.in_ok-crash_within.ensures.ok in
    within_now start c.args.self.now.world c.crash_within.new.self.world p.0 c.args.self.now.history c.crash_within.new.self.history c.args.run c.args.step.now c.args.crash.keeps.now c.args.crash.fill n c.requires p.1.0 p.1.1 p.1.2

pub returns-clause-ok : goal.returns-clause-ok
returns-clause-ok c = λ start fail n.
    let p = c.in_ok-crash_within.ensures.ok in
    within_ends start c.args.self.now.world p.0 c.args.self.now.history c.crash_within.new.self.history c.args.run c.args.step.now fail c.args.crash.keeps.now c.args.crash.fill n c.requires p.1.0 p.1.2
