-- What the words of `refile` say.
use Rattle.std.specs.Prelude.{◌==◌, ◌++◌, codes, ℕ, false, not, unwrap_or, filter, map, List, [], ◌∷◌, Option, None, Some, Result, Ok, Err, if◌then◌else◌}
use Rattle.std.specs.List.{flat_map}
use Rattle.mh_base.specs.Folders.{is_folder_name, without_plus}
use Rattle.mh_words.specs.declared.item.Item.{Item}
use Rattle.mh_words.specs.declared.item.Item.TheVariants.{Folder, Message, Switch, Component}
use Rattle.mh_profile.specs.declared.named_value.NamedValue.{NamedValue}
use Rattle.folder_files.specs.declared.refusal.Refusal.TheVariants as refusal
use Rattle.step_plans.specs.declared.command_fault.CommandFault.TheVariants as fault
use Rattle.command_words.specs.Ended.{plain, wrong_at, missing_after}
use Rattle.command_words.specs.FolderWords.{folder_in}
use Rattle.command_words.specs.MessageWords.{messages, names_or}
use Rattle.command_words.specs.Saying.{words_said}
use Rattle.command_words.specs.Switches.{last_choice, values}
use Rattle.folder_words.specs.Tables.{refile_table}
use Rattle.command_words.specs.Words.{profile_words}
use Rattle.command_words.specs.declared.ended.Ended.{Ended}
use Rattle.folder_words.specs.declared.refile.RefileWords.{RefileWords}
use Rattle.folder_words.specs.declared.table.TheConstants.{LINK, NOLINK, SRC}

-- the folders that an item names for messages to go to
abbrev pub targets_in : Item → List (List ℕ)
targets_in item = map (λ f. without_plus f.text) (folder_in item)

abbrev pub targets : List Item → List (List ℕ)
targets items = flat_map targets_in items

-- the words of an item that name a folder: one for messages to go to, or the one that they leave
abbrev pub naming_in : Item → List (List ℕ)
naming_in (Folder text place) = text ∷ []
naming_in (Message text place) = []
naming_in (Switch index None place) = []
naming_in (Switch index (Some value) place) = if index == SRC then value ∷ [] else []
naming_in (Component name value place) = []

-- those that are no folder's name, in the order of the words
abbrev pub wrong_in : Item → List (List ℕ)
wrong_in item = filter (λ word. not (is_folder_name (without_plus word))) (naming_in item)

abbrev pub wrong_names : List Item → List (List ℕ)
wrong_names items = flat_map wrong_in items

-- the folder that messages leave: the last that is given counts
abbrev pub last_or : Option (List ℕ) → List (List ℕ) → Option (List ℕ)
last_or before [] = before
last_or before (value ∷ others) = last_or (Some (without_plus value)) others

abbrev pub source_of : List Item → Option (List ℕ)
source_of items = last_or None (values SRC items)

-- what the items say beside the folders; of the two switches the last counts
abbrev pub words_of : Option (List ℕ) → List ℕ → List (List ℕ) → List Item → RefileWords
words_of source target others items = record {
  source = source;
  specs = names_or (codes "cur") (messages items);
  target = target;
  others = others;
  link = unwrap_or (last_choice LINK NOLINK items) false;
}

-- a word that names no folder is refused, the first before the others
abbrev pub unless_wrong : RefileWords → List (List ℕ) → Result RefileWords Ended
unless_wrong words [] = Ok words
unless_wrong words (word ∷ others) = Err (plain (fault.Refused (refusal.BadFolder word)))

-- a folder that is missing comes first, then a wrong name of one
abbrev pub targets_said : List (List ℕ) → List Item → List (List ℕ) → Result RefileWords Ended
targets_said words items [] = Err (wrong_at words (missing_after words))
targets_said words items (target ∷ others) =
    unless_wrong (words_of (source_of items) target others items) (wrong_names items)

-- what the items say
abbrev pub refile_items : List (List ℕ) → List Item → Result RefileWords Ended
refile_items words items = targets_said words items (targets items)

-- what the words of `refile` say, those of the profile first, or the refusal: of a switch, then for want of a folder,
-- then of the first wrong name of one
abbrev pub refile_said : List NamedValue → List (List ℕ) → Result RefileWords Ended
refile_said profile words = words_said refile_items refile_table (profile_words (codes "refile") profile ++ words)
