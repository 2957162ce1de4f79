-- The switches of commands on a folder.
use Rattle.std.specs.Prelude.{[], ◌∷◌, codes}
use Rattle.mh_words.specs.declared.table.Kind.TheVariants.{Flag, Value}
use Rattle.mh_words.specs.declared.table.SwitchTable.{SwitchTable}
use Rattle.command_words.specs.Tables.{switch, table_of, table_with_components}

-- the switches of `mark`
abbrev pub mark_table : SwitchTable
mark_table =
    table_of
    (switch (codes "add") Flag ∷ switch (codes "delete") Flag ∷ switch (codes "list") Flag
    ∷ switch (codes "sequence") Value ∷ switch (codes "public") Flag ∷ switch (codes "nopublic") Flag
    ∷ switch (codes "zero") Flag ∷ switch (codes "nozero") Flag ∷ [])

-- the switches of `refile`
abbrev pub refile_table : SwitchTable
refile_table = table_of (switch (codes "link") Flag ∷ switch (codes "nolink") Flag ∷ switch (codes "src") Value ∷ [])

-- the switches of `folder`
abbrev pub folder_table : SwitchTable
folder_table = table_of (switch (codes "pack") Flag ∷ switch (codes "nopack") Flag ∷ [])

-- the switches of `rmm`
abbrev pub rmm_table : SwitchTable
rmm_table = table_of (switch (codes "unlink") Flag ∷ switch (codes "nounlink") Flag ∷ [])

-- the switches of `pick`
abbrev pub pick_table : SwitchTable
pick_table =
    table_with_components
    (switch (codes "and") Flag ∷ switch (codes "or") Flag ∷ switch (codes "not") Flag ∷ switch (codes "lbrace") Flag ∷
    switch (codes "rbrace") Flag ∷ switch (codes "from") Value ∷ switch (codes "to") Value ∷ switch (codes "cc") Value ∷
    switch (codes "subject") Value ∷ switch (codes "date") Value ∷ switch (codes "search") Value
    ∷ switch (codes "before") Value ∷
    switch (codes "after") Value ∷ switch (codes "datefield") Value ∷ switch (codes "sequence") Value
    ∷ switch (codes "public") Flag ∷
    switch (codes "nopublic") Flag ∷ switch (codes "zero") Flag ∷ switch (codes "nozero") Flag
    ∷ switch (codes "list") Flag ∷
    switch (codes "nolist") Flag ∷ [])
