use Rattle.std.proofs.Common.{ap}
use Rattle.folder_room.specs.Left.{failed_of}
use Rattle.folder_room.proofs.Coursing.{failed_now}
use Rattle.folder_room.proofs.Finishing.{live_goes, live_ends, fail_ends}
use Rattle.folder_room.proofs.course.Course.answer_live.Goals as goal

pub returns-in-None-clause-now : goal.returns-in-None-clause-now
returns-in-None-clause-now c = λ start n. live_goes start c.args.self.now c.answer.new.self c.args.run c.args.step.now c.answer.result n c.requires c.answer.ensures.fits c.answer.ensures.ok c.answer.ensures.err

pub returns-in-None-clause-ok : goal.returns-in-None-clause-ok
returns-in-None-clause-ok c = λ start n.
    live_ends start c.args.self.now c.answer.new.self c.args.run c.args.step.now (failed_of c.args.fail) c.answer.result n c.requires (ap failed_of c.in-None.is) c.answer.ensures.fits c.answer.ensures.honest c.answer.ensures.ok

pub returns-in_ok-fail_by-in-Some-clause-now : goal.returns-in_ok-fail_by-in-Some-clause-now
returns-in_ok-fail_by-in-Some-clause-now c = λ start n.
    failed_now start c.args.self.now.world c.fail_by.new.self.world c.args.self.now.history c.fail_by.new.self.history c.args.run c.args.step.now c.in-Some.after.now n c.requires c.in_ok-fail_by-in-Some.ensures.ok.0 c.in_ok-fail_by-in-Some.ensures.ok.1

pub returns-in_ok-fail_by-in-Some-clause-ok : goal.returns-in_ok-fail_by-in-Some-clause-ok
returns-in_ok-fail_by-in-Some-clause-ok c = λ start n.
    fail_ends start c.args.self.now.world c.args.self.now.history c.fail_by.new.self.history c.args.run c.args.step.now (failed_of c.args.fail) c.in-Some.after.now n c.requires (ap failed_of c.in-Some.is) c.in_ok-fail_by-in-Some.ensures.ok.0
