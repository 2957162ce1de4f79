-- Tables of switches.
use Rattle.std.specs.Prelude.{ℕ, List, true, false}
use Rattle.std.specs.Borrow.{Bor}
use Rattle.std.specs.Str.{chars}
use Rattle.mh_words.specs.declared.table.Kind.{Kind}
use Rattle.mh_words.specs.declared.table.Switch.{Switch}
use Rattle.mh_words.specs.declared.table.SwitchTable.{SwitchTable}

-- a switch of this name and kind
abbrev pub switch : List ℕ → Kind → Switch
switch name kind = record { name = name; kind = kind }

-- by its row of a table in code
abbrev pub switch_by : Bor (List ℕ) × Kind → Switch
switch_by row = switch (chars row.0.now) row.1

-- the table of these switches, where no word names a component
abbrev pub table_of : List Switch → SwitchTable
table_of switches = record { switches = switches; components = false }

-- and where words do
abbrev pub table_with_components : List Switch → SwitchTable
table_with_components switches = record { switches = switches; components = true }
