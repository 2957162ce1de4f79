-- Values that decide how a command goes on.
use Rattle.std.specs.Prelude.{◌≡◌, Result, Err}
use Rattle.step_plans.specs.declared.command_fault.CommandFault.{CommandFault}
use Rattle.step_plans.specs.declared.command_fault.CommandFault.TheVariants as fault

-- the error is that of the value, or there was not enough memory
abbrev pub IsErrorOf : {A : Type 0} → Result A CommandFault → CommandFault → Type 0
IsErrorOf value (fault.Refused r) = value ≡ Err (fault.Refused r)
IsErrorOf value (fault.Faulted w) = ⊥
IsErrorOf value (fault.Locked p) = ⊥
IsErrorOf value (fault.Meddled p x) = ⊥
IsErrorOf value fault.Memory = Unit {0}
