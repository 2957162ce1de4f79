-- The folder and the messages that a directive forwards.
use Rattle.std.specs.Prelude.{ℕ, List, [], ◌∷◌, codes, Option, None, Some, Result, Ok, Err, if◌then◌else◌}
use Rattle.mh_base.specs.Folders.{is_folder_name, without_plus}
use Rattle.mh_profile.specs.declared.named_value.NamedValue.{NamedValue}
use Rattle.mh_sequences.specs.Runs.{numbers_of}
use Rattle.msg_ranges.specs.Selection.{marks_of}
use Rattle.folder_files.specs.declared.refusal.Refusal.TheVariants as refusal
use Rattle.step_plans.specs.declared.command_fault.CommandFault.{CommandFault}
use Rattle.step_plans.specs.declared.command_fault.CommandFault.TheVariants as fault
use Rattle.command_stages.specs.Chosen.{chosen_in, folder_with}
use Rattle.told_folders.specs.Tasks.{listed_runs, sequences_listed}
use Rattle.draft_contents.specs.declared.forwarding.Forwarding.{Forwarding}

-- the word that names the folder, or else the stored name of the current one
abbrev pub folder_word : Forwarding → Option (List ℕ) → List ℕ
folder_word f None = f.current
folder_word f (Some word) = word

-- the folder's name, or the refusal of a word that is none
abbrev pub folder_named : List ℕ → Result (List ℕ) CommandFault
folder_named word =
    if is_folder_name (without_plus word) then Ok (without_plus word) else Err (fault.Refused (refusal.BadFolder word))

-- the words that choose messages; the current one where there are none
abbrev pub specs_or_current : List (List ℕ) → List (List ℕ)
specs_or_current [] = codes "cur" ∷ []
specs_or_current (spec ∷ specs) = spec ∷ specs

-- the messages that these words choose, by the folder's names, the text of its sequences, of its listed messages alone,
-- and the context
abbrev pub chosen_seen : List ℕ → List ℕ → List (List ℕ) → List (List ℕ) → List ℕ → List NamedValue
    → Result (List ℕ) CommandFault
chosen_seen negation folder specs names text entries =
    chosen_in
    (folder_with negation (numbers_of (listed_runs names))
    (marks_of (sequences_listed names text entries folder))) specs
