-- A call answers by what it saw.
use Rattle.std.specs.Prelude.{◌≡◌, ◌⊎◌, ℕ, List, Option, Some, None}
use Rattle.mh_base.specs.Streams.{Adds, AddsPart}
use Rattle.folder_files.specs.Deeds.{Deed}
use Rattle.folder_files.specs.Story.{Story, IsPossible}
use Rattle.folder_files.specs.declared.refusal.Refusal.TheVariants.{TooLarge}
use Rattle.file_plans.specs.Agreeing.{MailboxAgrees}
use Rattle.file_plans.specs.Mailboxes.{Mailbox}
use Rattle.step_plans.specs.ContextCommit.{LIMIT_BYTES}
use Rattle.mhbuild_plans.specs.Heard.{Heard}
use Rattle.mh_tools.specs.Calls.{Call, LooksOnly, MadeBy}
use Rattle.mh_tools.specs.Outcome.{Outcome, outcome_of}
use Rattle.mh_tools.specs.Status.{IsVerdict}
use Rattle.mh_tools.specs.declared.status.Status.{Status}
use Rattle.mh_tools.specs.declared.status.Status.TheVariants.{Done, Refused}

-- what the call answers alone on this mailbox, where this is heard of its input
abbrev pub outcome_on : Call → Mailbox → Heard → Outcome
outcome_on c m heard = outcome_of c.words m c.setting heard

-- some mailbox agrees with the deeds, where a possible story is told
abbrev pub SomeAgrees : Option Story → List Deed → Type 0
SomeAgrees None deeds = Unit {0}
SomeAgrees (Some story) deeds = IsPossible story → (m : Mailbox) × MailboxAgrees m deeds

-- a status that the commit of the context decides, which is the last thing that a command does: another run may have
-- changed the context since it was read
abbrev pub IsLate : Status → Type 0
IsLate s = (s ≡ Done) ⊎ ((l : ℕ) × (s ≡ Refused (TooLarge l LIMIT_BYTES)))

-- By each mailbox that agrees with the answers to the call's own steps: the output gained a prefix of what the call
-- answers there alone, and at Done and at a refusal the whole; and then the status is the one that it answers there, or
-- both are those that a commit of the context decides. So what decides a refusal was seen by own steps, and so was all
-- that comes before it in the order of refusals. Where a possible story is told there is such a mailbox. And so it is
-- whatever the input has.
pub record TellsWhatItSaw (c : Call) : Type 0 where
  pub deeds : List Deed
  pub made : MadeBy c deeds
  pub exists : SomeAgrees c.before.files.story deeds
  pub prefix : (m : Mailbox) (heard : Heard) → MailboxAgrees m deeds
      → AddsPart c.before.out.told c.after.out.told (outcome_on c m heard).output
  pub whole : (m : Mailbox) (heard : Heard) → MailboxAgrees m deeds → IsVerdict c.status
      → Adds c.before.out.told c.after.out.told (outcome_on c m heard).output
  pub verdict : (m : Mailbox) (heard : Heard) → MailboxAgrees m deeds → IsVerdict c.status
      → (c.status ≡ (outcome_on c m heard).status) ⊎ (IsLate c.status × IsLate (outcome_on c m heard).status)

-- so does a command that only looks at a folder
abbrev pub TellsIfItLooks : Call → Type 0
TellsIfItLooks c = LooksOnly c → TellsWhatItSaw c
