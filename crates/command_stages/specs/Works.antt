-- What a command comes to, by the mailbox: what it writes, how it ends, and the mailbox that it leaves.
use Rattle.std.specs.Prelude.{ℕ, List, [], Option, None, Some, nat_lt, length, Result, Ok, Err, if◌then◌else◌}
use Rattle.file_plans.specs.Mailboxes.{Mailbox}
use Rattle.step_plans.specs.ContextCommit.{LIMIT_BYTES}
use Rattle.step_plans.specs.declared.command_fault.CommandFault.{CommandFault}
use Rattle.command_stages.specs.Texts.{too_large}

pub record Work (E : Type 0) : Type 0 where
  pub text : List ℕ
  pub end : Result Unit E
  pub mailbox : Mailbox

-- nothing is written, and the mailbox stays
abbrev pub refused_at : {E : Type 0} → Mailbox → E → Work E
refused_at m e = record { text = []; end = Err e; mailbox = m }

-- a text as it is read: the empty one where there is none, and none that is too long
abbrev pub readable : Option (List ℕ) → Result (List ℕ) CommandFault
readable None = Ok []
readable (Some text) = if nat_lt LIMIT_BYTES (length text) then Err (too_large (length text)) else Ok text
