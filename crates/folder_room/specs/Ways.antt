-- Where a change leads a name.
use Rattle.std.specs.Prelude.{ℕ, Option, Some, None}
use Rattle.folder_files.specs.Directory.{Slots}
use Rattle.folder_room.specs.declared.slots.Way.{Way}
use Rattle.folder_room.specs.declared.slots.Way.TheVariants.{File, Nowhere, As}

abbrev pub by_way : Slots → Way → Option ℕ
by_way s (File f) = Some f
by_way s Nowhere = None
by_way s (As name) = s name.now
