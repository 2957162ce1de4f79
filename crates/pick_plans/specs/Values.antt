-- Results that are a value, or want of memory.
use Rattle.std.specs.Prelude.{◌≡◌, ℕ, List, Result, Ok, Err}
use Rattle.std.specs.Global.{Vec}
use Rattle.step_plans.specs.declared.command_fault.CommandFault.{CommandFault}
use Rattle.command_stages.specs.Values.{IsErrorOf}

-- the list has this value's numbers, or it is this refusal, or there was not enough memory
abbrev pub AreValue : Result (List ℕ) CommandFault → Result (Vec ℕ) CommandFault → Type 0
AreValue value (Ok list) = value ≡ Ok list.items
AreValue value (Err e) = IsErrorOf value e
