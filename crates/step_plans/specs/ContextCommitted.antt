-- What a commit of the context promises that stands for itself: which faults it answers, and what it makes of the
-- mailbox where it runs alone.
use Rattle.std.specs.Prelude.{◌≡◌, ◌⊎◌, ◌++◌, ◌+◌, ℕ, true, false, List, length, Option, None, Some, Result, Ok, Err}
use Rattle.mh_base.specs.Counts.{Rose}
use Rattle.mh_profile.specs.Reading.{entries_in}
use Rattle.mh_profile.specs.declared.named_value.NamedValue.{NamedValue}
use Rattle.folder_files.specs.Deeds.{Deed}
use Rattle.folder_files.specs.Histories.{IsAlone}
use Rattle.folder_files.specs.Story.{Story, IsPossible}
use Rattle.folder_files.specs.Worlds.{IsStart}
use Rattle.folder_files.specs.declared.place.Place.{Place}
use Rattle.folder_files.specs.declared.place.Place.TheVariants.{Mail}
use Rattle.file_plans.specs.Alone.{first_of, mailbox_at}
use Rattle.file_plans.specs.Contents.{filled}
use Rattle.file_plans.specs.Follows.{State}
use Rattle.file_plans.specs.MailboxChanges.{with_context_text}
use Rattle.file_plans.specs.Mailboxes.{Mailbox}
use Rattle.file_plans.specs.Plan.{Hand}
use Rattle.file_plans.specs.Sightings.{AreMade, Made, IsFailed}
use Rattle.step_plans.specs.ContextCommit.{settled}
use Rattle.step_plans.specs.ContextPledge.{text_by}
use Rattle.step_plans.specs.Endings.{ShowsPlanFault}
use Rattle.step_plans.specs.declared.change.ChangeEntry.{ChangeEntry}
use Rattle.step_plans.specs.declared.fault.PlanFault.{PlanFault}
use Rattle.step_plans.specs.declared.fault.PlanFault.TheVariants as fault

-- Faulted comes where a step failed, and the count of the files rose; want of memory is free; each other fault comes
-- where no step failed and what shows it was answered
abbrev pub ShowsEnd : ℕ → Place → List ChangeEntry → State → State → List Deed → PlanFault → Type 0
ShowsEnd run p cs x y own fault.Faulted = Rose x.files.faults y.files.faults × Made IsFailed own
ShowsEnd run p cs x y own (fault.Locked q) =
    ShowsPlanFault run p cs x.hand (fault.Locked q) own × (Made IsFailed own → ⊥)
ShowsEnd run p cs x y own (fault.Meddled q n) =
    ShowsPlanFault run p cs x.hand (fault.Meddled q n) own × (Made IsFailed own → ⊥)
ShowsEnd run p cs x y own fault.Full = ⊥
ShowsEnd run p cs x y own (fault.Absent q) = ⊥
ShowsEnd run p cs x y own (fault.TooLarge l) =
    ShowsPlanFault run p cs x.hand (fault.TooLarge l) own × (Made IsFailed own → ⊥)
ShowsEnd run p cs x y own fault.Memory = Unit {0}

-- each answer has its cause in the answers to the call's own steps
pub record CommitIsCaused (run : ℕ) (p : Place) (cs : List ChangeEntry) (x y : State)
    (result : Result Unit PlanFault) : Type 0 where
  pub own : List Deed
  pub made : AreMade run x.files.story y.files.story own
  pub done : result ≡ Ok tt → Made IsFailed own → ⊥
  pub shown : (e : PlanFault) → result ≡ Err e → ShowsEnd run p cs x y own e

-- the entries that the hand knows, if any, are those of the context
abbrev pub KnowsContext : Mailbox → List ℕ → Hand → Type 0
KnowsContext m path h = (es : List NamedValue) → h.context ≡ Some es → es ≡ entries_in (filled (m.context (Mail path)))

-- where they say what the changes would say nothing changed, and else the context has its new text, and nothing else of
-- the mailbox changed
abbrev pub IsContextCommitted : Mailbox → Mailbox → List ℕ → List ChangeEntry → Hand → Type 0
IsContextCommitted before after path cs h =
    ((settled cs h.context ≡ true) × (after ≡ before))
    ⊎ ((settled cs h.context ≡ false)
    × (after ≡ with_context_text before (Mail path) (text_by cs (filled (before.context (Mail path))))))

-- so of a commit beside which nothing happened
abbrev pub CommitsAlone : ℕ → List ℕ → List ChangeEntry → Hand → Story → Story → Type 0
CommitsAlone run path cs h old new =
    (added : List ℕ) → new.asked ≡ old.asked ++ added → IsStart new.start → IsPossible old
    → IsAlone run new.start new.history added →
    let first = first_of (length old.history) added in
    KnowsContext (mailbox_at new first) path h
    → IsContextCommitted (mailbox_at new first) (mailbox_at new (first + length added)) path cs h

-- where a story is told
abbrev pub CommitsAloneIfTold : ℕ → List ℕ → List ChangeEntry → Hand → Option Story → Option Story → Type 0
CommitsAloneIfTold run path cs h None None = Unit {0}
CommitsAloneIfTold run path cs h (Some old) (Some new) = CommitsAlone run path cs h old new
CommitsAloneIfTold run path cs h None (Some new) = ⊥
CommitsAloneIfTold run path cs h (Some old) None = ⊥
