-- What the code's deeds show.
use Rattle.std.specs.Prelude.{List, map}
use Rattle.folder_files.specs.Deeds.{Deed, did}
use Rattle.step_discipline.specs.declared.deed.DeedRef.{DeedRef}

abbrev pub seen : DeedRef → Deed
seen d = did d.step.now d.answer.now

abbrev pub seen_all : List DeedRef → List Deed
seen_all ds = map seen ds
