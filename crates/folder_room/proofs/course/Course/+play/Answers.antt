use Rattle.std.proofs.Common.{ap}
use Rattle.folder_files.specs.Histories.{past_of}
use Rattle.folder_room.specs.declared.course.Course.{Course}
use Rattle.folder_room.proofs.Coursing.{dead_now}
use Rattle.folder_room.proofs.Turning.{play_none, play_within, play_more, play_stop}
use Rattle.folder_room.proofs.course.Course.+play.Goals as goal

pub returns-in-None-clause-plays : goal.returns-in-None-clause-plays
returns-in-None-clause-plays n c = λ start now. play_none (λ h. h.now) start c.args.run c.args.turn.now (past_of c.args.self.now.history) c.in-None.ensures.cases

pub returns-in-Some-within-clause-plays : goal.returns-in-Some-within-clause-plays
returns-in-Some-within-clause-plays n c = λ start now.
    play_within (λ h. h.now) start c.args.run c.args.turn.now c.in-Some.rest.now c.in-Some.what.now c.in-Some-within.crash.keeps.now c.in-Some-within.crash.fill (past_of c.args.self.now.history) c.in-Some.ensures.cases.0
    c.in-Some-within.ensures.some.0.1 c.in-Some-within.ensures.some.0.0

pub returns-in-Ok-clause-plays : goal.returns-in-Ok-clause-plays
returns-in-Ok-clause-plays n c = λ start now.
    play_more (λ h. h.now) start c.args.run c.play.result c.args.turn.now c.in-Some.rest.now c.in-Some.what.now (past_of c.args.self.now.history) (past_of c.play_one.new.self.history) (past_of c.play.new.self.history) c.in-Some.ensures.cases.0
    (λ e. dead_now start c.args.self.now.world c.args.self.now.history c.args.run now (c.in-None-within.ensures.none e)) (c.in-Ok.ensures.ok start now) (c.play.ensures.plays start (c.play_one.ensures.now start now))

pub returns-in-Err-clause-plays : goal.returns-in-Err-clause-plays
returns-in-Err-clause-plays n c = λ start now.
    play_stop (λ h. h.now) start c.args.run c.args.turn.now (past_of c.args.self.now.history) (past_of c.play_one.new.self.history) (ap (λ (x : Course). past_of x.history) c.in-Err.ensures.err)
