-- The switches of `mhstore`.
use Rattle.std.specs.Prelude.{[], ◌∷◌, codes}
use Rattle.mh_words.specs.declared.table.Kind.TheVariants.{Value}
use Rattle.mh_words.specs.declared.table.SwitchTable.{SwitchTable}
use Rattle.command_words.specs.Tables.{switch, table_of}

abbrev pub store_table : SwitchTable
store_table = table_of (switch (codes "part") Value ∷ switch (codes "clobber") Value ∷ [])
