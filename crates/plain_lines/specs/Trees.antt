-- The formats that trees of parts are.
use Rattle.std.specs.Prelude.{List, [], ◌∷◌, map}
use Rattle.format_compiler.specs.Grammar.{Format, Done, Then, Choice}
use Rattle.plain_lines.specs.declared.part.Part.{Part}
use Rattle.plain_lines.specs.declared.part.Part.TheOpen.{Part-F, Print, Choose}
use Rattle.plain_lines.specs.declared.part.Part.TheFolds.{fold-Part}

-- these parts, and then a format
abbrev pub all_before : List (Format → Format) → Format → Format
all_before [] f = f
all_before (before ∷ more) f = before (all_before more f)

-- One part, and then a format; of the parts inside there is how each is put before a format.
abbrev pub before_step : Part-F (Format → Format) → Format → Format
before_step (Print piece) f = Then piece f
before_step (Choose test taken other) f = Choice test (all_before taken.items Done) (all_before other.items Done) f

-- a part, and then a format
abbrev pub part_before : Part → Format → Format
part_before = fold-Part (Format → Format) before_step

-- the format of these parts
abbrev pub format_of : List Part → Format
format_of parts = all_before (map part_before parts) Done
