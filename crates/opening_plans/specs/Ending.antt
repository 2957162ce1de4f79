-- How a command ends on a folder that it has begun.
use Rattle.std.specs.Prelude.{◌≡◌, ℕ, Result, Ok, Err}
use Rattle.folder_files.specs.declared.place.Place.{Place}
use Rattle.file_plans.specs.Asking.{attempt_unlock, unlock}
use Rattle.file_plans.specs.Follows.{State, Follows}
use Rattle.file_plans.specs.Plan.{Return, lifted, ◌>>=◌}
use Rattle.step_plans.specs.CommandFaults.{command_cause, of_stop}
use Rattle.step_plans.specs.declared.command_fault.CommandFault.{CommandFault}
use Rattle.step_plans.specs.declared.command_fault.CommandFault.TheVariants as fault
use Rattle.command_stages.specs.Texts.{Commanded}

-- the folder's lock falls, and the command is done; where that fails it ends
unfoldable pub finished : Place → Commanded Unit
finished p = do
  free ← lifted of_stop (unlock p)
  Return (Ok tt)

-- the folder's lock falls, and the command ends so, also where that failed
unfoldable pub given_up : Place → CommandFault → Commanded Unit
given_up p e = do
  free ← lifted of_stop (attempt_unlock p)
  Return (Err e)

-- after its work: a refusal and another's lock stand whatever the unlock answers; a name that was changed meanwhile
-- ends the command at once
abbrev pub ended : Place → Result Unit CommandFault → Commanded Unit
ended p (Ok u) = finished p
ended p (Err (fault.Refused r)) = given_up p (fault.Refused r)
ended p (Err (fault.Faulted w)) = Return (Err (fault.Faulted w))
ended p (Err (fault.Locked q)) = given_up p (fault.Locked q)
ended p (Err (fault.Meddled q n)) = Return (Err (fault.Meddled q n))
ended p (Err fault.Memory) = Return (Err fault.Memory)

-- what the end of a command does after work that ended so: after a fault, and for want of memory, nothing
abbrev pub Ends : ℕ → Place → Result Unit CommandFault → State → State → Result Unit CommandFault → Type 0
Ends run p (Ok u) x y result = Follows run command_cause (finished p) x y result
Ends run p (Err (fault.Refused r)) x y result = Follows run command_cause (given_up p (fault.Refused r)) x y result
Ends run p (Err (fault.Faulted w)) x y result = (result ≡ Err (fault.Faulted w)) × (y ≡ x)
Ends run p (Err (fault.Locked q)) x y result = Follows run command_cause (given_up p (fault.Locked q)) x y result
Ends run p (Err (fault.Meddled q n)) x y result = (result ≡ Err (fault.Meddled q n)) × (y ≡ x)
Ends run p (Err fault.Memory) x y result = (result ≡ Err fault.Memory) × (y ≡ x)
