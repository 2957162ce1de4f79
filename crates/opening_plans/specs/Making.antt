-- The plan that begins a folder which is made where it is missing.
use Rattle.std.specs.Prelude.{◌≡◌, ℕ, false, List, None}
use Rattle.folder_files.specs.declared.place.Place.{Place}
use Rattle.file_plans.specs.Asking.{make_folder}
use Rattle.file_plans.specs.Contents.{Contents}
use Rattle.file_plans.specs.Plan.{lifted, ◌>>=◌}
use Rattle.step_plans.specs.Locking.{lock_name}
use Rattle.step_plans.specs.PlanFaults.{Planned, of_stop}
use Rattle.step_plans.specs.declared.fault.PlanFault.{PlanFault}
use Rattle.step_plans.specs.declared.fault.PlanFault.TheVariants as fault
use Rattle.opening_plans.specs.Opening.{Opened, begun}

-- a folder that the run has made and that isn't there was taken away meanwhile
abbrev pub once_made : PlanFault → PlanFault
once_made fault.Faulted = fault.Faulted
once_made (fault.Locked p) = fault.Locked p
once_made (fault.Meddled p name) = fault.Meddled p name
once_made fault.Full = fault.Full
once_made (fault.Absent p) = fault.Meddled p lock_name
once_made (fault.TooLarge l) = fault.TooLarge l
once_made fault.Memory = fault.Memory

-- the folder at this place is made where it is missing, and begun
unfoldable pub made_begun : ℕ → Place → Place → List ℕ → Planned Opened
made_begun run p mail folder = do
  made ← lifted of_stop (make_folder p)
  lifted once_made (begun run p mail folder)

-- no name of a directory that isn't there leads anywhere: so one that is made is empty
abbrev pub IsBare : Contents → Type 0
IsBare c = (p : Place) → c.there p ≡ false → (x : List ℕ) → c.texts p x ≡ None
