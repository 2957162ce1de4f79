-- Messages are read, and put in order by their keys.
use Rattle.std.specs.Prelude.{ℕ, List, [], ◌∷◌, ◌++◌, Ok, Err}
use Rattle.mh_base.specs.Entries.{entry_text}
use Rattle.mh_base.specs.declared.entry.Entry.TheVariants.{Number}
use Rattle.folder_files.specs.declared.place.Place.{Place}
use Rattle.file_plans.specs.Asking.{read}
use Rattle.file_plans.specs.Plan.{Return, lifted, ◌>>=◌}
use Rattle.file_plans.specs.declared.answers.Reading.{Reading}
use Rattle.file_plans.specs.declared.answers.Reading.TheVariants as reading
use Rattle.step_plans.specs.CommandFaults.{of_stop}
use Rattle.step_plans.specs.ContextCommit.{LIMIT_BYTES}
use Rattle.step_plans.specs.declared.command_fault.CommandFault.TheVariants as fault
use Rattle.command_stages.specs.Texts.{Commanded, too_large}
use Rattle.sortm_plans.specs.Keys.{date_key, text_key}
use Rattle.sortm_plans.specs.Ordered.{order_by_dates, order_by_texts}
use Rattle.sortm_plans.specs.declared.job.SortKey.{SortKey}
use Rattle.sortm_plans.specs.declared.job.SortKey.TheVariants as key

-- a message that was read; one that is too long is refused, and one that is gone was changed by others
abbrev pub message_by : Place → ℕ → Reading → Commanded (List ℕ)
message_by p n (reading.Content bytes) = Return (Ok bytes)
message_by p n (reading.Long l) = Return (Err (too_large l))
message_by p n reading.Gone = Return (Err (fault.Meddled p (entry_text (Number n))))

unfoldable pub message_read : Place → ℕ → Commanded (List ℕ)
message_read p n = do
  reading ← lifted of_stop (read p (entry_text (Number n)) LIMIT_BYTES)
  message_by p n reading

-- the messages of these numbers are read, one after another, and of each its key is kept, behind those of the messages
-- before
unfoldable pub keys_read : {K : Type 0} → (List ℕ → K) → Place → List K → List ℕ → Commanded (List K)
keys_read key p keys [] = Return (Ok keys)
keys_read key p keys (n ∷ ns) = do
  bytes ← message_read p n
  keys_read key p (keys ++ key bytes ∷ []) ns

-- the numbers in the order of the dates of this field
unfoldable pub date_order_read : Place → List ℕ → List ℕ → Commanded (List ℕ)
date_order_read p field numbers = do
  dates ← keys_read (date_key field) p [] numbers
  Return (Ok (order_by_dates dates numbers))

-- in the order of the texts of this field
unfoldable pub text_order_read : Place → List ℕ → List ℕ → Commanded (List ℕ)
text_order_read p field numbers = do
  texts ← keys_read (text_key field) p [] numbers
  Return (Ok (order_by_texts texts numbers))

-- in the order that is asked for
abbrev pub order_read : Place → SortKey → List ℕ → Commanded (List ℕ)
order_read p (key.Date field) numbers = date_order_read p field numbers
order_read p (key.Text field) numbers = text_order_read p field numbers
