-- The status of a call.
use Rattle.std.specs.Prelude.{ℕ, List, Option, None, Result, Ok, Err}
use Rattle.step_plans.specs.declared.command_fault.CommandFault.{CommandFault}
use Rattle.step_plans.specs.declared.command_fault.CommandFault.TheVariants as fault
use Rattle.command_words.specs.declared.ended.Ended.{Ended}
use Rattle.mh_tools.specs.declared.status.Status.{Status}
use Rattle.mh_tools.specs.declared.status.Status.TheVariants.{Done, Refused, Faulted, Locked, Meddled, NoMemory}

-- the program's exit status
abbrev pub exit_of_status : Status → ℕ
exit_of_status Done = 0
exit_of_status (Refused refusal) = 1
exit_of_status (Faulted which) = 2
exit_of_status (Locked place) = 3
exit_of_status (Meddled place name) = 4
exit_of_status NoMemory = 5

-- the status of a fault
abbrev pub fault_status : CommandFault → Status
fault_status (fault.Refused refusal) = Refused refusal
fault_status (fault.Faulted which) = Faulted which
fault_status (fault.Locked place) = Locked place
fault_status (fault.Meddled place name) = Meddled place name
fault_status fault.Memory = NoMemory

-- the status of how a command ended
abbrev pub ended_status : Result Unit Ended → Status
ended_status (Ok u) = Done
ended_status (Err e) = fault_status e.fault

-- the word of which its error line speaks
abbrev pub ended_word : Result Unit Ended → Option (List ℕ)
ended_word (Ok u) = None
ended_word (Err e) = e.word

-- Done or a refusal
abbrev pub IsVerdict : Status → Type 0
IsVerdict Done = Unit {0}
IsVerdict (Refused r) = Unit {0}
IsVerdict (Faulted w) = ⊥
IsVerdict (Locked p) = ⊥
IsVerdict (Meddled p name) = ⊥
IsVerdict NoMemory = ⊥
