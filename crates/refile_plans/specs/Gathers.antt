-- What code does that begins several folders, works on them, and lets them go together.
use Rattle.std.specs.Prelude.{◌≡◌, ℕ, List, Result, Ok, Err}
use Rattle.folder_files.specs.declared.place.Place.{Place}
use Rattle.file_plans.specs.Follows.{Follows, State}
use Rattle.file_plans.specs.Plan.{Plan, bind}
use Rattle.step_plans.specs.CommandFaults.{command_cause}
use Rattle.step_plans.specs.declared.command_fault.CommandFault.{CommandFault}
use Rattle.step_plans.specs.declared.command_fault.CommandFault.TheVariants as fault
use Rattle.command_stages.specs.Texts.{Commanded}
use Rattle.opening_plans.specs.Opening.{Opened}
use Rattle.refile_plans.specs.Gathering.{Gathered, all_finished, all_given_up, gathered}

-- what comes after these folders were begun, where it ended so: after a fault, and for want of memory, nothing
abbrev pub GoesOn : ℕ → (Gathered → Commanded Unit) → List Opened → Result Unit CommandFault → State → State
    → Result Unit CommandFault → Type 0
GoesOn run later opened (Ok u) y z s = Follows run command_cause (later (gathered opened (Ok u))) y z s
GoesOn run later opened (Err (fault.Refused r)) y z s =
    Follows run command_cause (later (gathered opened (Err (fault.Refused r)))) y z s
GoesOn run later opened (Err (fault.Faulted w)) y z s = (s ≡ Err (fault.Faulted w)) × (z ≡ y)
GoesOn run later opened (Err (fault.Locked q)) y z s =
    Follows run command_cause (later (gathered opened (Err (fault.Locked q)))) y z s
GoesOn run later opened (Err (fault.Meddled q n)) y z s =
    Follows run command_cause (later (gathered opened (Err (fault.Meddled q n)))) y z s
GoesOn run later opened (Err fault.Memory) y z s = (s ≡ Err fault.Memory) × (z ≡ y)

-- the code followed this plan, which begins folders: so it does together with whatever comes after
abbrev pub Gathers : ℕ → Plan Gathered → State → State → List Opened → Result Unit CommandFault → Type 0
Gathers run p x y opened r =
    (later : Gathered → Commanded Unit) (z : State) (s : Result Unit CommandFault) → GoesOn run later opened r y z s
    → Follows run command_cause (bind p later) x z s

-- the work followed this plan, where all folders were begun; else nothing was done
abbrev pub WorksIf : ℕ → Commanded Unit → Result Unit CommandFault → State → State → Result Unit CommandFault → Type 0
WorksIf run p (Ok u) x y result = Follows run command_cause p x y result
WorksIf run p (Err e) x y result = (result ≡ Err e) × (y ≡ x)

-- what the end of a command does after work that ended so: after a fault, a name that was changed meanwhile, and for
-- want of memory nothing
abbrev pub EndsAll : ℕ → List Place → Result Unit CommandFault → State → State → Result Unit CommandFault → Type 0
EndsAll run ps (Ok u) x y result = Follows run command_cause (all_finished ps) x y result
EndsAll run ps (Err (fault.Refused r)) x y result =
    Follows run command_cause (all_given_up ps (fault.Refused r)) x y result
EndsAll run ps (Err (fault.Faulted w)) x y result = (result ≡ Err (fault.Faulted w)) × (y ≡ x)
EndsAll run ps (Err (fault.Locked q)) x y result =
    Follows run command_cause (all_given_up ps (fault.Locked q)) x y result
EndsAll run ps (Err (fault.Meddled q n)) x y result = (result ≡ Err (fault.Meddled q n)) × (y ≡ x)
EndsAll run ps (Err fault.Memory) x y result = (result ≡ Err fault.Memory) × (y ≡ x)
