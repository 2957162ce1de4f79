-- The switch of `mhlist`.
use Rattle.std.specs.Prelude.{[], ◌∷◌, codes}
use Rattle.mh_words.specs.declared.table.Kind.TheVariants.{Value}
use Rattle.mh_words.specs.declared.table.SwitchTable.{SwitchTable}
use Rattle.command_words.specs.Tables.{switch, table_of}

abbrev pub list_table : SwitchTable
list_table = table_of (switch (codes "part") Value ∷ [])
