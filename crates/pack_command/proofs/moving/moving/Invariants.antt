use Rattle.std.proofs.Common.{◌≡◌, take}
use Rattle.message_places.specs.Places.{froms}
use Rattle.pack_command.proofs.moving.moving.Given as goal

abbrev pub invariant-loop-one : goal.invariant-loop-one
invariant-loop-one l = l.numbers ≡ froms (take l.one-index l.moves)
