-- The switches of `sortm`.
use Rattle.std.specs.Prelude.{[], ◌∷◌, codes}
use Rattle.mh_words.specs.declared.table.Kind.TheVariants.{Value}
use Rattle.mh_words.specs.declared.table.SwitchTable.{SwitchTable}
use Rattle.command_words.specs.Tables.{switch, table_of}

abbrev pub sort_table : SwitchTable
sort_table = table_of (switch (codes "datefield") Value ∷ switch (codes "textfield") Value ∷ [])
