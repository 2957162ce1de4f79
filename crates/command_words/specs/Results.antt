-- Results that are a value, or want of memory.
use Rattle.std.specs.Prelude.{◌≡◌, ◌⊎◌, ℕ, List, Option, None, Some, Result, Ok, Err}
use Rattle.std.specs.Borrow.{Bor}
use Rattle.mh_base.specs.declared.word.WordWhy.TheVariants.{Extra}
use Rattle.mh_words.specs.Whole.{Wrong}
use Rattle.step_plans.specs.declared.command_fault.CommandFault.{CommandFault}
use Rattle.step_plans.specs.declared.command_fault.CommandFault.TheVariants as fault
use Rattle.command_words.specs.declared.ended.Ended.{Ended}

-- the name is this value, or the value is this refusal, or there was not enough memory
abbrev pub IsNamed : {A : Type 0} → Result A CommandFault → Result A CommandFault → Type 0
IsNamed value (Ok name) = value ≡ Ok name
IsNamed value (Err (fault.Refused r)) = value ≡ Err (fault.Refused r)
IsNamed value (Err (fault.Faulted w)) = ⊥
IsNamed value (Err (fault.Locked p)) = ⊥
IsNamed value (Err (fault.Meddled p x)) = ⊥
IsNamed value (Err fault.Memory) = Unit {0}

-- the word of the one folder, or the place of a second
abbrev pub IsOneFolder : Result (Option (List ℕ)) Wrong → Result (Option (Bor (List ℕ))) ℕ → Type 0
IsOneFolder value (Ok None) = value ≡ Ok None
IsOneFolder value (Ok (Some word)) = value ≡ Ok (Some word.now)
IsOneFolder value (Err place) = value ≡ Err (record { place = place; why = Extra })

-- the result is this, or there was not enough memory
abbrev pub IsSaid : {A : Type 0} → Result A Ended → Result A Ended → Type 0
IsSaid value (Ok said) = value ≡ Ok said
IsSaid value (Err e) = (value ≡ Err e) ⊎ (e.fault ≡ fault.Memory)
