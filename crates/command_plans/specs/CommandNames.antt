-- The commands that there are, by name.
use Rattle.std.specs.Prelude.{ℕ, Bool, true, false, List, [], ◌∷◌, Option, None, Some, bytes_eq, codes, if◌then◌else◌}
use Rattle.command_plans.specs.declared.name.CommandName.{CommandName}
use Rattle.command_plans.specs.declared.name.CommandName.TheVariants.{Anno, Folder as FolderCommand, Inc, Mark, Mhbuild, Mhlist, Mhstore, Pick, Refile, Rmm, Scan, Sortm}

-- the command of this name
abbrev pub named : List ℕ → Option CommandName
named word =
    if bytes_eq word (codes "inc") then Some Inc
    else (if bytes_eq word (codes "scan") then Some Scan
    else (if bytes_eq word (codes "mark") then Some Mark
    else (if bytes_eq word (codes "rmm") then Some Rmm
    else (if bytes_eq word (codes "refile") then Some Refile
    else (if bytes_eq word (codes "pick") then Some Pick
    else (if bytes_eq word (codes "folder") then Some FolderCommand
    else (if bytes_eq word (codes "anno") then Some Anno
    else (if bytes_eq word (codes "sortm") then Some Sortm
    else (if bytes_eq word (codes "mhlist") then Some Mhlist
    else (if bytes_eq word (codes "mhstore") then Some Mhstore
    else (if bytes_eq word (codes "mhbuild") then Some Mhbuild else None)))))))))))

-- the command that the words of a call name
abbrev pub command_of : List (List ℕ) → Option CommandName
command_of [] = None
command_of (word ∷ words) = named word

-- it begins a folder, by its words at least; or what it tells and what shows its ends is said by its own steps, as of
-- one that lists parts, stores them or makes a message of a draft
abbrev pub begins_folders : Option CommandName → Bool
begins_folders None = false
begins_folders (Some Inc) = true
begins_folders (Some Scan) = false
begins_folders (Some Mark) = true
begins_folders (Some Pick) = true
begins_folders (Some Refile) = true
begins_folders (Some Rmm) = true
begins_folders (Some FolderCommand) = true
begins_folders (Some Anno) = true
begins_folders (Some Sortm) = true
begins_folders (Some Mhlist) = true
begins_folders (Some Mhstore) = true
begins_folders (Some Mhbuild) = true

-- it makes its folder where that is missing
abbrev pub makes_folders : Option CommandName → Bool
makes_folders None = false
makes_folders (Some Inc) = true
makes_folders (Some Scan) = false
makes_folders (Some Mark) = false
makes_folders (Some Pick) = false
makes_folders (Some Refile) = true
makes_folders (Some Rmm) = false
makes_folders (Some FolderCommand) = false
makes_folders (Some Anno) = false
makes_folders (Some Sortm) = false
makes_folders (Some Mhlist) = false
makes_folders (Some Mhstore) = false
makes_folders (Some Mhbuild) = false

-- it makes files in the current directory
abbrev pub stores_files : Option CommandName → Bool
stores_files None = false
stores_files (Some Inc) = false
stores_files (Some Scan) = false
stores_files (Some Mark) = false
stores_files (Some Pick) = false
stores_files (Some Refile) = false
stores_files (Some Rmm) = false
stores_files (Some FolderCommand) = false
stores_files (Some Anno) = false
stores_files (Some Sortm) = false
stores_files (Some Mhlist) = false
stores_files (Some Mhstore) = true
stores_files (Some Mhbuild) = true

-- what shows how it ended is said with one folder at most that is let go; of `refile`, which lets several go, apart,
-- and of `mhbuild`, which acts on none
abbrev pub shows_ends : Option CommandName → Bool
shows_ends None = false
shows_ends (Some Inc) = true
shows_ends (Some Scan) = false
shows_ends (Some Mark) = true
shows_ends (Some Pick) = true
shows_ends (Some Refile) = false
shows_ends (Some Rmm) = true
shows_ends (Some FolderCommand) = true
shows_ends (Some Anno) = true
shows_ends (Some Sortm) = true
shows_ends (Some Mhlist) = true
shows_ends (Some Mhstore) = true
shows_ends (Some Mhbuild) = false
