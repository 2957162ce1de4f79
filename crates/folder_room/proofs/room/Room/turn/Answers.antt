use Rattle.std.proofs.Common.{◌≡◌, rules, subst, List}
use Rattle.folder_files.specs.Histories.{past_of}
use Rattle.folder_files.specs.declared.event.Event.{Event}
use Rattle.folder_room.specs.Played.{Plays, turn_of, stops}
use Rattle.folder_room.proofs.room.Room.turn.Goals as goal

pub returns-in-Err-clause-played : goal.returns-in-Err-clause-played
returns-in-Err-clause-played c =
    let e : c.args.self.now.history ≡ c.self.inside.course.history = search rules in
    let turn = turn_of c.saturating_add-self-inside.result c.args.self.now.script in
    (turn, subst (λ (es : List Event). Plays c.args.self.now.start c.args.run turn turn (past_of c.args.self.now.history) (past_of es)) e stops)
