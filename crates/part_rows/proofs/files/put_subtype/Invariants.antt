use Rattle.std.proofs.Common.{◌≡◌, ◌++◌, take}
use Rattle.std.specs.Prelude.{map}
use Rattle.part_rows.specs.FileNames.{name_byte}
use Rattle.part_rows.proofs.files.put_subtype.Given as goal

abbrev pub invariant-loop-byte : goal.invariant-loop-byte
invariant-loop-byte l = l.name ≡ l.initial.name ++ map name_byte (take l.byte-index l.subtype)
