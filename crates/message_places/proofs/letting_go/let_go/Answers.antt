use Rattle.std.proofs.Common.{ap}
use Rattle.std.specs.Prelude.{option_copied}
use Rattle.message_places.proofs.Turns.{let_go_none, let_go_some}
use Rattle.message_places.proofs.letting_go.let_go.Goals as goal

pub returns-in-Some : goal.returns-in-Some
returns-in-Some g c = λ h. let_go_some c.args.run c.args.place.now c.args.moves.now c.args.ends.now _ _ c.last.ensures.value (ap option_copied c.in-Some.is) (c.drop_safely.ensures h)

pub returns-in-None : goal.returns-in-None
returns-in-None g c = λ h. let_go_none c.args.run c.args.place.now c.args.moves.now c.args.ends.now _ c.last.ensures.value (ap option_copied c.in-None.is)
