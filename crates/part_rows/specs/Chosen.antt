-- The parts that the code's choices have.
use Rattle.std.specs.Prelude.{Bool}
use Rattle.part_rows.specs.declared.choices.Choice.{Choice}
use Rattle.part_rows.specs.declared.choices.Choice.TheVariants.{Listed, Stored}
use Rattle.part_rows.specs.Choices.{is_listed, is_stored}
use Rattle.part_rows.specs.PartViews.{PartView}

-- whether a choice has a part
abbrev pub chooses : Choice → PartView → Bool
chooses (Listed wanted) part = is_listed wanted part
chooses (Stored wanted) part = is_stored wanted part
