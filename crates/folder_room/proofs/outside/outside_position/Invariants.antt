use Rattle.folder_files.specs.Places.{same_path}
use Rattle.folder_room.specs.Positions.{SkipsBy}
use Rattle.folder_room.proofs.outside.outside_position.Given as goal

abbrev pub invariant-loop-index : goal.invariant-loop-index
invariant-loop-index l = SkipsBy (λ o. same_path o.path l.path) l.drops l.index
