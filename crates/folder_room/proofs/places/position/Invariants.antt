use Rattle.folder_room.specs.Positions.{Skips}
use Rattle.folder_room.proofs.places.position.Given as goal

abbrev pub invariant-loop-index : goal.invariant-loop-index
invariant-loop-index l = Skips l.directories l.index l.place
