-- What a call answers that runs alone.
use Rattle.std.specs.Prelude.{◌≡◌, ◌⊎◌, ◌++◌, ℕ, ◌+◌, List, length, Option, Some, None}
use Rattle.mh_base.specs.Counts.{Rose}
use Rattle.mh_base.specs.Streams.{Adds}
use Rattle.folder_files.specs.Histories.{IsAlone}
use Rattle.folder_files.specs.Story.{Story, IsPossible}
use Rattle.folder_files.specs.Worlds.{IsStart}
use Rattle.file_plans.specs.Alone.{first_of, mailbox_at, world_at}
use Rattle.file_plans.specs.Contents.{contents_of}
use Rattle.file_plans.specs.Mailboxes.{Mailbox}
use Rattle.mhbuild_plans.specs.BuildAlone.{IsHeard}
use Rattle.mhbuild_plans.specs.Heard.{Heard, heard_text}
use Rattle.mhstore_plans.specs.ClearWork.{HasClearWork}
use Rattle.mh_tools.specs.Calls.{Call, StoresFiles}
use Rattle.mh_tools.specs.Outcome.{Outcome, outcome_of}
use Rattle.mh_tools.specs.Status.{IsVerdict}
use Rattle.mh_tools.specs.declared.status.Status.TheVariants.{NoMemory}

-- the call ended so, which is Done or a refusal, wrote this, and left this mailbox; the error text where the error
-- output did not fail
pub record HasOutcome (outcome : Outcome) (after : Mailbox) (c : Call) : Type 0 where
  pub verdict : IsVerdict c.status
  pub ends : c.status ≡ outcome.status
  pub output : Adds c.before.out.told c.after.out.told outcome.output
  pub mailbox : after ≡ outcome.mailbox
  pub error : (Rose c.before.err.faults c.after.err.faults → ⊥) → Adds c.before.err.told c.after.err.told outcome.error

-- all that was left of the input was heard, and is not too long; or so much of it that this is; where the input tells
-- what it has left
abbrev pub HasHeard : Option (List ℕ) → Option (List ℕ) → Heard → Type 0
HasHeard None None heard = Unit {0}
HasHeard (Some old) (Some new) heard = IsHeard old new (heard_text heard)
HasHeard None (Some new) heard = ⊥
HasHeard (Some old) None heard = ⊥

-- this holds of what the call heard of its input; or of whatever it might have heard, as of a call that does not look
-- at it
abbrev pub ByHeard : Call → (Heard → Type 0) → Type 0
ByHeard c Holds =
    ((heard : Heard) × HasHeard c.before.input.left c.after.input.left heard × Holds heard)
    ⊎ ((heard : Heard) → Holds heard)

-- the counts of the files, the input and the output did not rise
pub record IsUnfaulted (c : Call) : Type 0 where
  pub files : Rose c.before.files.faults c.after.files.faults → ⊥
  pub source : Rose c.before.input.faults c.after.input.faults → ⊥
  pub out : Rose c.before.out.faults c.after.out.faults → ⊥

-- Where the history began at a start, nothing else happened between the call's first step and its last, no other run
-- had a lock at the first, the story was a possible one, and no count rose, and for a call that makes files in the
-- current directory that was there and no file of it had a temporary name of the run: the call has the outcome of its
-- words, and of what it heard, on the mailbox at its first step, or wants memory. Nothing else is answered then.
abbrev pub HasOutcomeAlone : Call → Story → Story → Type 0
HasOutcomeAlone c old new =
    (added : List ℕ) → new.asked ≡ old.asked ++ added → IsStart new.start → IsPossible old
    → IsAlone c.setting.run new.start new.history added →
    let first = first_of (length old.history) added in
    (StoresFiles c → HasClearWork c.setting.run (contents_of (world_at new first))) →
    (c.status ≡ NoMemory)
    ⊎ ByHeard c
    (λ heard.
    HasOutcome (outcome_of c.words (mailbox_at new first) c.setting heard)
    (mailbox_at new (first + length added)) c)

-- the same, where a story is told
abbrev pub AloneIfTold : Call → Option Story → Option Story → Type 0
AloneIfTold c None None = Unit {0}
AloneIfTold c (Some old) (Some new) = HasOutcomeAlone c old new
AloneIfTold c None (Some new) = ⊥
AloneIfTold c (Some old) None = ⊥

-- a call that runs alone, and in which no count rose, has the outcome of its words, the mailbox and what it heard, or
-- wants memory
pub record AnswersAlone (c : Call) : Type 0 where
  pub answers : IsUnfaulted c → AloneIfTold c c.before.files.story c.after.files.story
