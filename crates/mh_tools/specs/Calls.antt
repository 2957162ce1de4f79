-- A call of `mh`.
use Rattle.std.specs.Prelude.{◌≡◌, ℕ, true, false, List, Some}
use Rattle.mh_base.specs.Streams.{SourceState, SinkState}
use Rattle.folder_files.specs.Deeds.{Deed}
use Rattle.folder_files.specs.Story.{FilesState}
use Rattle.file_plans.specs.Follows.{State, all}
use Rattle.file_plans.specs.Plan.{Hand}
use Rattle.file_plans.specs.Sightings.{AreMade}
use Rattle.command_plans.specs.CommandNames.{begins_folders, command_of, makes_folders, stores_files}
use Rattle.command_plans.specs.declared.name.CommandName.TheVariants.{Mhbuild}
use Rattle.mh_tools.specs.Setting.{SettingParts}
use Rattle.mh_tools.specs.declared.status.Status.{Status}

-- what surrounds a call: the files, the input, the output and the error output
pub record Surroundings : Type 0 where
  pub files : FilesState
  pub input : SourceState
  pub out : SinkState
  pub err : SinkState

-- a call's words and setting, what surrounded it before and after, and its status
pub record Call : Type 0 where
  pub words : List (List ℕ)
  pub setting : SettingParts
  pub before : Surroundings
  pub after : Surroundings
  pub status : Status

abbrev pub around : FilesState → SourceState → SinkState → SinkState → Surroundings
around f n o e = record { files = f; input = n; out = o; err = e }

abbrev pub called : List (List ℕ) → SettingParts → Surroundings → Surroundings → Status → Call
called words setting before after status =
    record { words = words; setting = setting; before = before; after = after; status = status }

-- the state in which its command begins, and the one in which it ends
abbrev pub begins : Call → Hand → State
begins c h = all h c.before.files c.before.input c.before.out

abbrev pub ends : Call → Hand → State
ends c h = all h c.after.files c.after.input c.after.out

-- these are the call's own steps with their answers, the newest first, where a story is told
abbrev pub MadeBy : Call → List Deed → Type 0
MadeBy c own = AreMade c.setting.run c.before.files.story c.after.files.story own

-- the words name no command that begins a folder
abbrev pub LooksOnly : Call → Type 0
LooksOnly c = begins_folders (command_of c.words) ≡ false

-- they name one that makes its folder
abbrev pub MakesFolder : Call → Type 0
MakesFolder c = makes_folders (command_of c.words) ≡ true

-- they name one that makes files in the current directory
abbrev pub StoresFiles : Call → Type 0
StoresFiles c = stores_files (command_of c.words) ≡ true

-- they name the one that makes a message of a draft
abbrev pub Builds : Call → Type 0
Builds c = command_of c.words ≡ Some Mhbuild
