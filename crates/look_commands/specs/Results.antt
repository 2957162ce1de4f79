-- Results whose value is told by what is seen of it.
use Rattle.std.specs.Prelude.{◌≡◌, ◌⊎◌, ℕ, Result, Ok, Err}
use Rattle.file_plans.specs.Follows.{Follows, State}
use Rattle.file_plans.specs.Runs.{Cause}
use Rattle.step_plans.specs.declared.command_fault.CommandFault.{CommandFault}
use Rattle.step_plans.specs.declared.command_fault.CommandFault.TheVariants as fault
use Rattle.command_stages.specs.Texts.{Commanded}
use Rattle.command_stages.specs.Values.{IsErrorOf}
use Rattle.command_words.specs.declared.ended.Ended.{Ended}

-- a call followed the plan, to this by what is seen of it, or to this fault
abbrev pub FollowsAs : {A B : Type 0} → (B → A) → ℕ → (CommandFault → Cause) → Commanded A → State → State
    → Result B CommandFault → Type 0
FollowsAs view run cause plan x y (Ok b) = Follows run cause plan x y (Ok (view b))
FollowsAs view run cause plan x y (Err e) = Follows run cause plan x y (Err e)

-- the result is this, by what is seen of it, or there was not enough memory
abbrev pub IsSaidAs : {A B : Type 0} → (B → A) → Result A Ended → Result B Ended → Type 0
IsSaidAs view value (Ok said) = value ≡ Ok (view said)
IsSaidAs view value (Err e) = (value ≡ Err e) ⊎ (e.fault ≡ fault.Memory)

abbrev pub IsNamedAs : {A B : Type 0} → (B → A) → Result A CommandFault → Result B CommandFault → Type 0
IsNamedAs view value (Ok named) = value ≡ Ok (view named)
IsNamedAs view value (Err e) = IsErrorOf value e
