-- Results that are a value, or want of memory.
use Rattle.std.specs.Prelude.{◌≡◌, ℕ, List, Result, Ok, Err}
use Rattle.std.specs.Global.{Vec}
use Rattle.step_plans.specs.declared.command_fault.CommandFault.{CommandFault}
use Rattle.step_plans.specs.declared.command_fault.CommandFault.TheVariants as fault

-- the list has this value's numbers, or the value is this refusal, or there was not enough memory
abbrev pub IsListed : Result (List ℕ) CommandFault → Result (Vec ℕ) CommandFault → Type 0
IsListed value (Ok list) = value ≡ Ok list.items
IsListed value (Err (fault.Refused r)) = value ≡ Err (fault.Refused r)
IsListed value (Err (fault.Faulted w)) = ⊥
IsListed value (Err (fault.Locked p)) = ⊥
IsListed value (Err (fault.Meddled p x)) = ⊥
IsListed value (Err fault.Memory) = Unit {0}
