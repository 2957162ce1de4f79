-- The plans by which a file comes into the current directory.
use Rattle.std.specs.Prelude.{ℕ, Bool, true, false, List, Ok, Err}
use Rattle.folder_files.specs.declared.place.Place.TheVariants.{Work}
use Rattle.file_plans.specs.Asking.{link}
use Rattle.file_plans.specs.Plan.{Return, lifted, ◌>>=◌}
use Rattle.file_plans.specs.declared.answers.Entered.{Entered}
use Rattle.file_plans.specs.declared.answers.Entered.TheVariants as entered
use Rattle.step_plans.specs.Locking.{removed}
use Rattle.step_plans.specs.PlanFaults.{of_stop, Planned}
use Rattle.step_plans.specs.Replacing.{replaced, synced, written}
use Rattle.step_plans.specs.declared.fault.PlanFault.TheVariants as fault

-- whether the name was free, unless the file that it was to get was changed meanwhile
abbrev pub linked_by : List ℕ → Entered → Planned Bool
linked_by temp entered.Done = Return (Ok true)
linked_by temp entered.Exists = Return (Ok false)
linked_by temp entered.Gone = Return (Err (fault.Meddled Work temp))

-- the file of this temporary name gets the name, where that is free
unfoldable pub linked : List ℕ → List ℕ → Planned Bool
linked temp name = do
  entered ← lifted of_stop (link Work temp name)
  linked_by temp entered

-- where it was, the directory is made safe
abbrev pub if_free : List ℕ → Bool → Planned Bool
if_free name true = do
  safe ← synced Work name
  Return (Ok true)
if_free name false = Return (Ok false)

-- a file with these bytes is made under the run's next temporary name and made safe, gets the name where that is free,
-- and loses its temporary name; whether it got the name
unfoldable pub file_added : ℕ → List ℕ → List ℕ → Planned Bool
file_added run name bytes = do
  temp ← written run Work bytes
  free ← linked temp name
  gone ← removed Work temp
  if_free name free

-- one with these bytes takes the place of whatever has the name
unfoldable pub file_replaced : ℕ → List ℕ → List ℕ → Planned Bool
file_replaced run name bytes = do
  done ← replaced run Work name bytes
  Return (Ok true)

-- a file with these bytes is stored under this name, and whether it was: where files that stand there are replaced, it
-- was
abbrev pub file_stored : ℕ → Bool → List ℕ → List ℕ → Planned Bool
file_stored run true name bytes = file_replaced run name bytes
file_stored run false name bytes = file_added run name bytes
