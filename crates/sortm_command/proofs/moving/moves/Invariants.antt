use Rattle.std.proofs.Common.{◌≡◌, ◌++◌, drop}
use Rattle.message_places.specs.Order.{moves_of}
use Rattle.sortm_command.proofs.moving.moves.Given as goal

abbrev pub invariant-loop-i : goal.invariant-loop-i
invariant-loop-i l = l.moves ++ moves_of (drop l.i l.order) (drop l.i l.places) ≡ moves_of l.order l.places
