use Rattle.std.proofs.Common.{◌==◌}
use Rattle.folder_room.specs.Positions.{SkipsBy}
use Rattle.folder_room.proofs.files.file_position.Given as goal

abbrev pub invariant-loop-index : goal.invariant-loop-index
invariant-loop-index l = SkipsBy (λ x. x.id == l.id) l.files l.index
