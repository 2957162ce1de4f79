-- What can be heard of an input.
use Rattle.std.specs.Prelude.{ℕ, List, Result, Ok, Err}
use Rattle.step_plans.specs.declared.command_fault.CommandFault.{CommandFault}
use Rattle.command_stages.specs.Texts.{too_large}

-- all of it; or so many bytes of it that they are too many
pub data Heard : Type 0 where
  Whole : (text : List ℕ) → Heard
  TooMuch : (length : ℕ) → Heard

-- the text, or its refusal
abbrev pub heard_text : Heard → Result (List ℕ) CommandFault
heard_text (Whole text) = Ok text
heard_text (TooMuch length) = Err (too_large length)
