use Rattle.std.proofs.Common.{sym, subst, List}
use Rattle.std.proofs.lemmas.Result.{on_ok_weaker}
use Rattle.folder_files.specs.Histories.{past_of}
use Rattle.folder_files.specs.declared.event.Event.{Event}
use Rattle.folder_files.specs.declared.event.Event.TheVariants as event
use Rattle.folder_room.specs.Played.{PlaysOne, delivers, fails, crashes}
use Rattle.folder_room.specs.declared.script.Happening.TheVariants as happening
use Rattle.folder_room.specs.declared.script.Happening.{Happening}
use Rattle.folder_room.proofs.Coursing.{either_way, both_same, past_more, delivered_now, crashed_now, crash_by}
use Rattle.folder_room.proofs.course.Course.play_one.Goals as goal

pub returns-in-Deliver-clause-now : goal.returns-in-Deliver-clause-now
returns-in-Deliver-clause-now c = λ start n.
    either_way c.deliver.result c.deliver.ensures.ok c.deliver.ensures.err
    (λ p. delivered_now start c.args.self.now.world c.deliver.new.self.world c.args.self.now.history c.deliver.new.self.history c.in-Deliver.path c.in-Deliver.piece n p.0 p.1)
    (λ e. both_same start c.args.self.now c.deliver.new.self e n)

pub returns-in-Deliver-clause-ok : goal.returns-in-Deliver-clause-ok
returns-in-Deliver-clause-ok c = λ start n.
    on_ok_weaker c.deliver.result
    (λ p. subst (λ (what : Happening). PlaysOne start c.args.run what (past_of c.args.self.now.history) (past_of c.deliver.new.self.history)) (sym c.in-Deliver.is)
    (subst (λ (past : List Event). PlaysOne start c.args.run (happening.Deliver c.in-Deliver.path c.in-Deliver.piece) (past_of c.args.self.now.history) past)
    (sym (past_more c.args.self.now.history c.deliver.new.self.history (event.Deliver c.in-Deliver.path c.in-Deliver.piece) p.0)) (delivers c.in-Deliver.path c.in-Deliver.piece)))
    c.deliver.ensures.ok

pub returns-in-Fail-clause-ok : goal.returns-in-Fail-clause-ok
returns-in-Fail-clause-ok c = λ start n.
    subst (λ (what : Happening). PlaysOne start c.args.run what (past_of c.args.self.now.history) (past_of c.args.self.now.history)) (sym c.in-Fail.is) (fails c.in-Fail.after)

pub returns-in-Crash-clause-now : goal.returns-in-Crash-clause-now
returns-in-Crash-clause-now c = λ start n.
    either_way c.crash.result c.crash.ensures.ok c.crash.ensures.err
    (λ p. crashed_now start c.args.self.now.world c.crash.new.self.world p.0 c.args.self.now.history c.crash.new.self.history c.args.run c.in-Crash.keep c.in-Crash.fill n p.1.0 p.1.1 p.1.2)
    (λ e. both_same start c.args.self.now c.crash.new.self e n)

pub returns-in-Crash-clause-ok : goal.returns-in-Crash-clause-ok
returns-in-Crash-clause-ok c = λ start n.
    on_ok_weaker c.crash.result
    (λ p. subst (λ (what : Happening). PlaysOne start c.args.run what (past_of c.args.self.now.history) (past_of c.crash.new.self.history)) (sym c.in-Crash.is)
    (subst (λ (past : List Event). PlaysOne start c.args.run (happening.Crash c.in-Crash.keep c.in-Crash.fill c.in-Crash.made) (past_of c.args.self.now.history) past)
    (sym (past_more c.args.self.now.history c.crash.new.self.history (event.Crash p.0) p.1.0))
    (crashes c.in-Crash.keep c.in-Crash.fill c.in-Crash.made p.0 (crash_by start c.args.self.now.world p.0 c.args.self.now.history c.args.run c.in-Crash.keep c.in-Crash.fill n p.1.2))))
    c.crash.ensures.ok
