-- The switches of `anno`.
use Rattle.std.specs.Prelude.{[], ◌∷◌, codes}
use Rattle.mh_words.specs.declared.table.Kind.TheVariants.{Flag, Value}
use Rattle.mh_words.specs.declared.table.SwitchTable.{SwitchTable}
use Rattle.command_words.specs.Tables.{switch, table_of}

abbrev pub anno_table : SwitchTable
anno_table =
    table_of
    (switch (codes "component") Value ∷ switch (codes "text") Value ∷ switch (codes "date") Flag
    ∷ switch (codes "nodate") Flag ∷ [])
