-- Results that are a value, or want of memory.
use Rattle.std.specs.Prelude.{◌≡◌, ℕ, List, Result, Ok, Err}
use Rattle.std.specs.Global.{Vec}
use Rattle.step_plans.specs.declared.command_fault.CommandFault.{CommandFault}
use Rattle.command_stages.specs.Values.{IsErrorOf}

-- the result is this value, or this refusal, or there was not enough memory
abbrev pub IsValueOf : {A : Type 0} → Result A CommandFault → Result A CommandFault → Type 0
IsValueOf value (Ok a) = value ≡ Ok a
IsValueOf value (Err e) = IsErrorOf value e

-- the same of the numbers in a list
abbrev pub AreValue : Result (List ℕ) CommandFault → Result (Vec ℕ) CommandFault → Type 0
AreValue value (Ok list) = value ≡ Ok list.items
AreValue value (Err e) = IsErrorOf value e
