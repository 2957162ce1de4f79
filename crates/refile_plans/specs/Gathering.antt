-- The plans by which several folders are begun one after another, and let go together.
use Rattle.std.specs.Prelude.{◌++◌, ◌∷◌, [], ℕ, List, Result, Ok, Err}
use Rattle.folder_files.specs.declared.place.Place.{Place}
use Rattle.folder_files.specs.declared.place.Place.TheVariants.{Folder, Mail}
use Rattle.file_plans.specs.Asking.{attempt_unlock}
use Rattle.file_plans.specs.Plan.{Plan, Return, bind, lifted, ◌>>=◌}
use Rattle.step_plans.specs.CommandFaults.{of_stop}
use Rattle.step_plans.specs.declared.command_fault.CommandFault.{CommandFault}
use Rattle.step_plans.specs.declared.command_fault.CommandFault.TheVariants as fault
use Rattle.command_stages.specs.Endings.{of_plan}
use Rattle.command_stages.specs.Texts.{Commanded}
use Rattle.opening_plans.specs.Ending.{finished}
use Rattle.opening_plans.specs.Making.{made_begun}
use Rattle.opening_plans.specs.Opening.{Opened}

-- folders that were begun, in this order, and whether all were
pub record Gathered : Type 0 where
  pub opened : List Opened
  pub end : Result Unit CommandFault

abbrev pub gathered : List Opened → Result Unit CommandFault → Gathered
gathered opened end = record { opened = opened; end = end }

-- where one more was begun the others follow; else it ends there
abbrev pub after_one : List Opened → Result Opened CommandFault → (List Opened → Plan Gathered) → Plan Gathered
after_one before (Ok o) others = others (before ++ o ∷ [])
after_one before (Err e) others = Return (gathered before (Err e))

-- the folders of these names are made where they are missing, and begun, after those before
unfoldable pub all_begun : ℕ → List ℕ → List (List ℕ) → List Opened → Plan Gathered
all_begun run path [] before = Return (gathered before (Ok tt))
all_begun run path (name ∷ names) before =
    bind (lifted (of_plan name) (made_begun run (Folder path name) (Mail path) name))
    (λ r. after_one before r (λ now. all_begun run path names now))

-- the locks of these places fall, one after another, and the command is done; where one of these steps fails it ends
unfoldable pub all_finished : List Place → Commanded Unit
all_finished [] = Return (Ok tt)
all_finished (p ∷ ps) = do
  free ← finished p
  all_finished ps

-- the locks fall, and the command ends so, also where that failed
unfoldable pub all_given_up : List Place → CommandFault → Commanded Unit
all_given_up [] e = Return (Err e)
all_given_up (p ∷ ps) e = do
  free ← lifted of_stop (attempt_unlock p)
  all_given_up ps e

-- after the work on these folders: a refusal and another's lock stand whatever the unlocks answer; a name that was
-- changed meanwhile ends the command at once
abbrev pub all_ended : List Place → Result Unit CommandFault → Commanded Unit
all_ended ps (Ok u) = all_finished ps
all_ended ps (Err (fault.Refused r)) = all_given_up ps (fault.Refused r)
all_ended ps (Err (fault.Faulted w)) = Return (Err (fault.Faulted w))
all_ended ps (Err (fault.Locked q)) = all_given_up ps (fault.Locked q)
all_ended ps (Err (fault.Meddled q n)) = Return (Err (fault.Meddled q n))
all_ended ps (Err fault.Memory) = Return (Err fault.Memory)
