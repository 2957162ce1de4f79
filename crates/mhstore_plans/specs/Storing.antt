-- The plan of `mhstore`.
use Rattle.std.specs.Prelude.{ℕ, Bool, true, false, List, [], ◌∷◌, Option, None, Some, Result, Ok, Err}
use Rattle.mh_base.specs.Entries.{entry_text}
use Rattle.mh_base.specs.declared.entry.Entry.TheVariants.{Number, Sequences}
use Rattle.mh_profile.specs.declared.named_value.NamedValue.{NamedValue}
use Rattle.folder_files.specs.declared.place.Place.{Place}
use Rattle.folder_files.specs.declared.place.Place.TheVariants.{Folder}
use Rattle.folder_files.specs.declared.refusal.Refusal.TheVariants as refusal
use Rattle.file_plans.specs.Asking.{read}
use Rattle.file_plans.specs.Plan.{Return, Recall, lifted, ◌>>=◌}
use Rattle.file_plans.specs.declared.answers.Reading.{Reading}
use Rattle.file_plans.specs.declared.answers.Reading.TheVariants as reading
use Rattle.step_plans.specs.CommandFaults.{of_stop}
use Rattle.step_plans.specs.ContextCommit.{LIMIT_BYTES}
use Rattle.step_plans.specs.declared.command_fault.CommandFault.{CommandFault}
use Rattle.step_plans.specs.declared.command_fault.CommandFault.TheVariants as fault
use Rattle.command_stages.specs.Current.{made_current}
use Rattle.command_stages.specs.Endings.{of_plan}
use Rattle.command_stages.specs.Listed.{folder_listed}
use Rattle.command_stages.specs.Texts.{Commanded, text_read, too_large}
use Rattle.told_folders.specs.Plans.{lines_said}
use Rattle.part_rows.specs.Choices.{first_missing}
use Rattle.part_rows.specs.FileNames.{StoredFile, files_of}
use Rattle.part_rows.specs.PartViews.{parts_of}
use Rattle.mhlist_plans.specs.Listing.{chosen_by, no_part}
use Rattle.mhstore_plans.specs.Files.{file_stored}
use Rattle.mhstore_plans.specs.declared.job.StoreJob.{StoreJob}
use Rattle.mh_profile.specs.Reading.{entries_seen}

-- the line of a file that was stored is said; where a file stands there that is not replaced, that is refused
abbrev pub told_by : List ℕ → List ℕ → Bool → Commanded Unit
told_by name line true = lines_said (line ∷ [])
told_by name line false = Return (Err (fault.Refused (refusal.WouldReplace name)))

-- a file is stored, and its line is said
unfoldable pub one_filed : ℕ → StoreJob → StoredFile → Commanded Unit
one_filed run job f = do
  free ← lifted (of_plan job.folder) (file_stored run job.clobber f.name f.content)
  told_by f.name f.line free

-- these files, one after another
unfoldable pub all_filed : ℕ → StoreJob → List StoredFile → Commanded Unit
all_filed run job [] = Return (Ok tt)
all_filed run job (f ∷ fs) = do
  filed ← one_filed run job f
  all_filed run job fs

-- the parts of a message are stored, or the first of the wanted ones that it has not is refused
abbrev pub filed_unless : ℕ → StoreJob → ℕ → List ℕ → Option (List ℕ) → Commanded Unit
filed_unless run job n message None = all_filed run job (files_of n job.parts message)
filed_unless run job n message (Some path) = Return (Err (no_part path))

abbrev pub parts_filed : ℕ → StoreJob → ℕ → List ℕ → Commanded Unit
parts_filed run job n message = filed_unless run job n message (first_missing job.parts (parts_of message))

-- by what reading it gave
abbrev pub stored_by : ℕ → StoreJob → Place → ℕ → Reading → Commanded Unit
stored_by run job place n (reading.Content bytes) = parts_filed run job n bytes
stored_by run job place n (reading.Long l) = Return (Err (too_large l))
stored_by run job place n reading.Gone = Return (Err (fault.Meddled place (entry_text (Number n))))

-- a message is read, and its parts are stored
unfoldable pub one_stored : ℕ → StoreJob → Place → ℕ → Commanded Unit
one_stored run job place n = do
  reading ← lifted of_stop (read place (entry_text (Number n)) LIMIT_BYTES)
  stored_by run job place n reading

-- these messages, one after another
unfoldable pub all_stored : ℕ → StoreJob → Place → List ℕ → Commanded Unit
all_stored run job place [] = Return (Ok tt)
all_stored run job place (n ∷ ns) = do
  stored ← one_stored run job place n
  all_stored run job place ns

-- the messages that the job's words choose, by the folder's names, the text of its sequences and the context
abbrev pub chosen_seen : StoreJob → List (List ℕ) → List ℕ → List NamedValue → Result (List ℕ) CommandFault
chosen_seen job names text entries = chosen_by job.folder job.specs job.negation names text entries

-- `mhstore`: the folder is listed and its sequences are read; the parts of the chosen messages are stored in files of
-- the current directory; and the folder becomes the current one
unfoldable pub mhstore : ℕ → List ℕ → StoreJob → Commanded Unit
mhstore run mail job = do
  names ← folder_listed (Folder mail job.folder) job.folder
  text ← text_read (Folder mail job.folder) (entry_text Sequences)
  numbers ← Recall (λ h. Return (chosen_seen job names text (entries_seen h.context)))
  stored ← all_stored run job (Folder mail job.folder) numbers
  made_current run mail job.folder
