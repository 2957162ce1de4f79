-- The switches of `scan` and `inc`.
use Rattle.std.specs.Prelude.{[], ◌∷◌, codes}
use Rattle.mh_words.specs.declared.table.Kind.TheVariants.{Flag, Value}
use Rattle.mh_words.specs.declared.table.SwitchTable.{SwitchTable}
use Rattle.command_words.specs.Tables.{switch, table_of}

-- the switches of `scan`
abbrev pub scan_table : SwitchTable
scan_table =
    table_of
    (switch (codes "format") Value ∷ switch (codes "width") Value ∷ switch (codes "form") Value
    ∷ switch (codes "reverse") Flag ∷ switch (codes "noreverse") Flag ∷ [])

-- the switches of `inc`
abbrev pub inc_table : SwitchTable
inc_table =
    table_of
    (switch (codes "format") Value ∷ switch (codes "width") Value ∷ switch (codes "form") Value
    ∷ switch (codes "file") Value ∷ switch (codes "truncate") Flag ∷ switch (codes "notruncate") Flag
    ∷ switch (codes "changecur") Flag ∷ switch (codes "nochangecur") Flag
    ∷ switch (codes "silent") Flag ∷ switch (codes "nosilent") Flag ∷ [])
