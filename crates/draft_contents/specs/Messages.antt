-- Messages of a folder are read.
use Rattle.std.specs.Prelude.{ℕ, List, [], ◌∷◌, ◌++◌, Ok, Err}
use Rattle.mh_base.specs.Entries.{entry_text}
use Rattle.mh_base.specs.declared.entry.Entry.TheVariants.{Number, Sequences}
use Rattle.folder_files.specs.declared.place.Place.{Place}
use Rattle.folder_files.specs.declared.place.Place.TheVariants.{Folder}
use Rattle.file_plans.specs.Asking.{read}
use Rattle.file_plans.specs.Plan.{Return, Recall, lifted, ◌>>=◌}
use Rattle.file_plans.specs.declared.answers.Reading.{Reading}
use Rattle.file_plans.specs.declared.answers.Reading.TheVariants as reading
use Rattle.step_plans.specs.CommandFaults.{of_stop}
use Rattle.step_plans.specs.ContextCommit.{LIMIT_BYTES}
use Rattle.step_plans.specs.declared.command_fault.CommandFault.TheVariants as fault
use Rattle.command_stages.specs.Listed.{folder_listed}
use Rattle.command_stages.specs.Texts.{Commanded, text_read, too_large}
use Rattle.draft_contents.specs.Forwards.{chosen_seen}
use Rattle.draft_contents.specs.declared.forwarding.Forwarding.{Forwarding}
use Rattle.mh_profile.specs.Reading.{entries_seen}

-- by what reading it gave
abbrev pub message_by : Place → ℕ → Reading → Commanded (List ℕ)
message_by place n (reading.Content bytes) = Return (Ok bytes)
message_by place n (reading.Long l) = Return (Err (too_large l))
message_by place n reading.Gone = Return (Err (fault.Meddled place (entry_text (Number n))))

unfoldable pub message_read : Place → ℕ → Commanded (List ℕ)
message_read place n = do
  reading ← lifted of_stop (read place (entry_text (Number n)) LIMIT_BYTES)
  message_by place n reading

-- these messages, one after another, behind those that were read before
unfoldable pub messages_read : Place → List (List ℕ) → List ℕ → Commanded (List (List ℕ))
messages_read place before [] = Return (Ok before)
messages_read place before (n ∷ ns) = do
  message ← message_read place n
  messages_read place (before ++ message ∷ []) ns

-- the messages of this folder that these words choose: it is listed, its sequences are read, and then the messages
unfoldable pub messages_given : List ℕ → Forwarding → List ℕ → List (List ℕ) → Commanded (List (List ℕ))
messages_given mail f folder specs = do
  names ← folder_listed (Folder mail folder) folder
  text ← text_read (Folder mail folder) (entry_text Sequences)
  numbers ← Recall (λ h. Return (chosen_seen f.negation folder specs names text (entries_seen h.context)))
  messages_read (Folder mail folder) [] numbers
