-- A file made under a temporary name, which then takes another name's place.
use Rattle.std.specs.Prelude.{ℕ, List, Ok, Err}
use Rattle.folder_files.specs.declared.place.Place.{Place}
use Rattle.file_plans.specs.Asking.{create, sync_file, sync_folder, rename}
use Rattle.file_plans.specs.Plan.{Return, lifted, ◌>>=◌}
use Rattle.file_plans.specs.declared.answers.Entered.{Entered}
use Rattle.file_plans.specs.declared.answers.Entered.TheVariants as entered
use Rattle.file_plans.specs.declared.answers.Touched.{Touched}
use Rattle.file_plans.specs.declared.answers.Touched.TheVariants as touched
use Rattle.step_plans.specs.declared.fault.PlanFault.TheVariants as fault
use Rattle.step_plans.specs.PlanFaults.{of_stop, Planned}
use Rattle.step_plans.specs.Hands.{named}

-- a name of this call is there, or it was changed meanwhile
abbrev pub held_to : Place → List ℕ → Touched → Planned Unit
held_to p n touched.Done = Return (Ok tt)
held_to p n touched.Gone = Return (Err (fault.Meddled p n))

-- a fresh name was made, or was changed meanwhile
abbrev pub entered_once : Place → List ℕ → Entered → Planned Unit
entered_once p n entered.Done = Return (Ok tt)
entered_once p n entered.Exists = Return (Err (fault.Meddled p n))
entered_once p n entered.Gone = Return (Err (fault.Meddled p n))

unfoldable pub created : Place → List ℕ → List ℕ → Planned Unit
created p n bytes = do
  entered ← lifted of_stop (create p n bytes)
  entered_once p n entered

unfoldable pub made_safe : Place → List ℕ → Planned Unit
made_safe p n = do
  touched ← lifted of_stop (sync_file p n)
  held_to p n touched

-- a file with these bytes is made under the run's next temporary name, and made safe
unfoldable pub written : ℕ → Place → List ℕ → Planned (List ℕ)
written run p bytes = do
  temp ← named run
  made ← created p temp bytes
  safe ← made_safe p temp
  Return (Ok temp)

-- the directory's changes are made safe; this is the last name that the call made there
unfoldable pub synced : Place → List ℕ → Planned Unit
synced p n = do
  touched ← lifted of_stop (sync_folder p)
  held_to p n touched

unfoldable pub renamed : Place → List ℕ → List ℕ → Planned Unit
renamed p from to = do
  touched ← lifted of_stop (rename p from to)
  held_to p from touched

-- a new file with these bytes takes a name's place, and stays there
unfoldable pub replaced : ℕ → Place → List ℕ → List ℕ → Planned Unit
replaced run p name bytes = do
  temp ← written run p bytes
  moved ← renamed p temp name
  synced p name
