-- The plans of the parts by which a message leaves its folder and has a name at each time.
use Rattle.std.specs.Prelude.{ℕ, List, Result, Ok, Err, length, nat_lt, if◌then◌else◌}
use Rattle.mh_base.specs.Entries.{entry_text}
use Rattle.mh_base.specs.declared.entry.Entry.TheVariants.{Held, Number}
use Rattle.folder_files.specs.declared.place.Place.{Place}
use Rattle.file_plans.specs.Asking.{read}
use Rattle.file_plans.specs.Plan.{Return, lifted, ◌>>=◌}
use Rattle.file_plans.specs.declared.answers.Reading.{Reading}
use Rattle.file_plans.specs.declared.answers.Reading.TheVariants as reading
use Rattle.step_plans.specs.ContextCommit.{LIMIT_BYTES}
use Rattle.step_plans.specs.Locking.{removed}
use Rattle.step_plans.specs.PlanFaults.{Planned, of_stop}
use Rattle.step_plans.specs.Replacing.{renamed, synced}
use Rattle.step_plans.specs.declared.fault.PlanFault.{PlanFault}
use Rattle.step_plans.specs.declared.fault.PlanFault.TheVariants as fault

-- the message of this number has the run's held name of it in the number's place; this is that name
unfoldable pub number_taken : ℕ → Place → ℕ → Planned (List ℕ)
number_taken run p n = do
  moved ← renamed p (entry_text (Number n)) (entry_text (Held run n))
  Return (Ok (entry_text (Held run n)))

-- what was read under a name that this run made or saw
abbrev pub content_by : Place → List ℕ → Reading → Planned (List ℕ)
content_by p name (reading.Content bytes) = Return (Ok bytes)
content_by p name (reading.Long length_) = Return (Err (fault.TooLarge length_))
content_by p name reading.Gone = Return (Err (fault.Meddled p name))

-- the bytes of the message of this name
unfoldable pub content_read : Place → List ℕ → Planned (List ℕ)
content_read p name = do
  reading ← lifted of_stop (read p name LIMIT_BYTES)
  content_by p name reading

-- a held name goes, and that it is gone is made safe, so that no crash brings it back
unfoldable pub held_discarded : Place → List ℕ → Planned Unit
held_discarded p held = do
  gone ← removed p held
  synced p held

-- the bytes of a message, where they are not above the limit
abbrev pub readable : List ℕ → Result (List ℕ) PlanFault
readable bytes = if nat_lt LIMIT_BYTES (length bytes) then Err (fault.TooLarge (length bytes)) else Ok bytes
