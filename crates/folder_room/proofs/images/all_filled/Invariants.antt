use Rattle.std.proofs.Common.{◌≡◌, map, take}
use Rattle.folder_room.specs.Closing.{filled_file}
use Rattle.folder_room.proofs.images.all_filled.Given as goal

abbrev pub invariant-loop-file : goal.invariant-loop-file
invariant-loop-file l = l.all ≡ map (filled_file l.fill) (take l.file-index l.files)
