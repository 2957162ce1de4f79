-- What a draft wants, by the mailbox. Nothing here knows of steps.
use Rattle.std.specs.Prelude.{ℕ, List, [], ◌∷◌, ◌++◌, unwrap_or, Option, None, Some, Result, Ok, Err}
use Rattle.mh_profile.specs.declared.named_value.NamedValue.{NamedValue}
use Rattle.mh_sequences.specs.Runs.{numbers_of}
use Rattle.msg_ranges.specs.Selection.{marks_of}
use Rattle.folder_files.specs.declared.place.FilePath.{FilePath}
use Rattle.folder_files.specs.declared.place.Place.TheVariants.{Folder}
use Rattle.folder_files.specs.declared.refusal.Refusal.TheVariants as refusal
use Rattle.file_plans.specs.Mailboxes.{Folder as FolderValue, Mailbox}
use Rattle.step_plans.specs.declared.command_fault.CommandFault.{CommandFault}
use Rattle.step_plans.specs.declared.command_fault.CommandFault.TheVariants as fault
use Rattle.sequence_commits.specs.Cutting.{cut_to}
use Rattle.sequence_commits.specs.Reading.{sequences_in}
use Rattle.command_stages.specs.Chosen.{chosen_in, folder_with}
use Rattle.command_stages.specs.Works.{readable}
use Rattle.opening_plans.specs.BegunWork.{runs_in}
use Rattle.mh_drafts.specs.declared.want.Want.{Want}
use Rattle.mh_drafts.specs.declared.want.Want.TheVariants as want
use Rattle.mhbuild_compose.specs.declared.given.Given.{Given}
use Rattle.mhbuild_compose.specs.declared.given.Given.TheVariants as given
use Rattle.draft_files.specs.Drafts.{no_file}
use Rattle.draft_files.specs.Limits.{within_limit}
use Rattle.draft_contents.specs.Forwards.{folder_named, folder_word, specs_or_current}
use Rattle.draft_contents.specs.declared.forwarding.Forwarding.{Forwarding}

-- what follows from a value, or its refusal
abbrev pub and_then : {A B : Type 0} → Result A CommandFault → (A → Result B CommandFault) → Result B CommandFault
and_then (Ok a) next = next a
and_then (Err e) next = Err e

-- a text that must be there, and is not too long
abbrev pub present : CommandFault → Option (List ℕ) → Result (List ℕ) CommandFault
present missing None = Err missing
present missing (Some text) = within_limit text

abbrev pub file_found : Mailbox → FilePath → Result (List ℕ) CommandFault
file_found m path = present (no_file path) (m.outside path)

-- the texts of these messages, behind others
unfoldable pub messages_found : (ℕ → Option (List ℕ)) → List (List ℕ) → List ℕ → Result (List (List ℕ)) CommandFault
messages_found messages before [] = Ok before
messages_found messages before (n ∷ ns) =
    and_then (within_limit (unwrap_or (messages n) [])) (λ text. messages_found messages (before ++ text ∷ []) ns)

-- the messages that these words choose of a folder whose sequences have this text
abbrev pub chosen_of : List ℕ → List ℕ → List (List ℕ) → List NamedValue → FolderValue → List ℕ
    → Result (List ℕ) CommandFault
chosen_of negation folder specs entries v text =
    chosen_in
    (folder_with negation (numbers_of (runs_in v))
    (marks_of (cut_to (runs_in v) (sequences_in text entries folder)))) specs

abbrev pub folder_found : Forwarding → List ℕ → List (List ℕ) → List NamedValue → Option FolderValue
    → Result (List (List ℕ)) CommandFault
folder_found f folder specs entries None = Err (fault.Refused (refusal.NoFolder folder))
folder_found f folder specs entries (Some v) =
    and_then (readable v.sequences)
    (λ text.
    and_then (chosen_of f.negation folder specs entries v text)
    (λ numbers. messages_found v.messages [] numbers))

-- the messages that these words choose, of the folder that its word names, or else of the current one
abbrev pub forward_found : List ℕ → Forwarding → List NamedValue → Mailbox → Option (List ℕ) → List (List ℕ)
    → Result Given CommandFault
forward_found path f entries m word specs =
    and_then (folder_named (folder_word f word)) (λ folder.
    and_then (folder_found f folder (specs_or_current specs) entries (m.folders (Folder path folder)))
    (λ messages. Ok (given.Messages messages)))

abbrev pub want_found : List ℕ → Forwarding → List NamedValue → Mailbox → Want → Result Given CommandFault
want_found path f entries m (want.File file) = and_then (file_found m file) (λ bytes. Ok (given.File bytes))
want_found path f entries m (want.Messages word specs) = forward_found path f entries m word specs

-- all that is wanted, behind what was given before, or the refusal of the first that is refused
unfoldable pub all_found : List ℕ → Forwarding → List NamedValue → Mailbox → List Given → List Want
    → Result (List Given) CommandFault
all_found path f entries m before [] = Ok before
all_found path f entries m before (want ∷ wants) =
    and_then (want_found path f entries m want) (λ given. all_found path f entries m (before ++ given ∷ []) wants)
