use Rattle.std.proofs.Common.{rules, arith, length, ◌≡◌, ◌+◌, None}
use Rattle.folder_room.proofs.Finishing.{asked_at_end}
use Rattle.folder_room.proofs.room.take_turn.Goals as goal

pub returns-in-Ok-clause-asked : goal.returns-in-Ok-clause-asked
returns-in-Ok-clause-asked c = λ start n.
    let l = asked_at_end start c.args.run c.args.step.now _ c.play.new.self.history c.finish.new.self.history _ _ (c.in-Ok.ensures.ok start (c.play.ensures.now start n)) in
    let e : c.len-events.result ≡ length c.play.new.self.history = search rules in
    (c.len-events.result, (search rules, omega arith))

pub returns-in-Ok-finish_within-clause-asked : goal.returns-in-Ok-finish_within-clause-asked
returns-in-Ok-finish_within-clause-asked c = λ start n.
    let l = asked_at_end start c.args.run c.args.step.now _ c.play.new.self.history c.finish_within.new.self.history _ _ (c.in-Ok-finish_within.ensures.ok start None (c.play.ensures.now start n)) in
    let e : c.len-events.result ≡ length c.play.new.self.history = search rules in
    let p : c.in-Some-checked_add.place ≡ c.len-events.result + 1 = search rules in
    (c.in-Some-checked_add.place, (search rules, omega arith))
