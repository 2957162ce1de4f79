use Rattle.folder_room.proofs.Coursing.{either_way, both_same, ended_now}
use Rattle.folder_room.proofs.room.Room.end.Goals as goal

pub invariant_of-self : goal.invariant_of-self
invariant_of-self c =
    either_way c.end.result c.end.ensures.ok c.end.ensures.err
    (λ p. ended_now c.self.inside.start c.self.inside.course.world c.end.new.self.world c.self.inside.course.history c.end.new.self.history c.args.run c.self.invariant p.0 p.1)
    (λ e. both_same c.self.inside.start c.self.inside.course c.end.new.self e c.self.invariant)
