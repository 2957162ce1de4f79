-- Texts that are too long to be read or written.
use Rattle.std.specs.Prelude.{ℕ, List, length, nat_lt, Result, Ok, Err, if◌then◌else◌}
use Rattle.step_plans.specs.ContextCommit.{LIMIT_BYTES}
use Rattle.step_plans.specs.declared.command_fault.CommandFault.{CommandFault}
use Rattle.command_stages.specs.Texts.{too_large}

-- a text, or its refusal where it is above the limit
abbrev pub within_limit : List ℕ → Result (List ℕ) CommandFault
within_limit text = if nat_lt LIMIT_BYTES (length text) then Err (too_large (length text)) else Ok text
