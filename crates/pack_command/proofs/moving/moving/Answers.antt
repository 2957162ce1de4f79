use Rattle.std.proofs.Common.{ap, ◌∙◌, take_all}
use Rattle.message_places.specs.Places.{froms}
use Rattle.pack_command.proofs.moving.moving.Goals as goal

pub returns : goal.returns
returns c = c.loop-one.invariant ∙ ap froms (take_all c.loop-one.one-index c.args.moves.now c.loop-one-test.false)
