-- What a careful call promises of the mail, where the others are careful.
use Rattle.std.specs.Prelude.{◌≡◌, ◌≢◌, ℕ, true, false, List, [], ◌∷◌, Option, Some, None}
use Rattle.mh_base.specs.Entries.{kind_of}
use Rattle.folder_files.specs.Careful.{IsCareful, IsLook}
use Rattle.folder_files.specs.Deeds as deeds
use Rattle.folder_files.specs.Deeds.{WasDone}
use Rattle.folder_files.specs.Histories.{own, past_of, has_acted, world_after, IsLockable, IsOnMail, IsOrderly, AreHonest, AreOrderly}
use Rattle.folder_files.specs.Named.{is_number, is_committed}
use Rattle.folder_files.specs.Story.{Story, IsPossible}
use Rattle.folder_files.specs.Worlds.{IsStart}
use Rattle.folder_files.specs.declared.event.Event.{Event}
use Rattle.folder_files.specs.declared.event.Event.TheVariants.{Act, Deliver, Crash, End}
use Rattle.folder_files.specs.declared.place.Place.{Place}
use Rattle.folder_files.specs.declared.step.Step.{Step}
use Rattle.folder_files.specs.declared.step.Step.TheVariants.{Create, Rename}
use Rattle.folder_files.specs.declared.world.World.{World}
use Rattle.step_plans.specs.Commits.{text_at}
use Rattle.step_plans.specs.Moments.{Leads, IsTriedAt}
use Rattle.step_plans.specs.NoLoss.{LosesNothing}
use Rattle.step_plans.specs.Starts.{HasNoneOfTheirs}
use Rattle.step_plans.specs.Pledges.{Pledge, Marks}

-- at each step of these runs this holds of the run's deeds before it
abbrev pub AtSteps : (ℕ → Type 0) → (ℕ → List deeds.Deed → Step → Type 0) → List Event → Type 0
AtSteps Who P [] = Unit {0}
AtSteps Who P (Act r s a m ∷ past) = (Who r → P r (own r past) s) × AtSteps Who P past
AtSteps Who P (Deliver path piece ∷ past) = AtSteps Who P past
AtSteps Who P (Crash v ∷ past) = AtSteps Who P past
AtSteps Who P (End r ∷ past) = AtSteps Who P past

-- each step of the other runs in a folder or a mail directory, and each cut of theirs, is careful
abbrev pub OthersAreCareful : ℕ → List Event → Type 0
OthersAreCareful run past = AtSteps (λ r. r ≢ run) (λ r own s. IsOnMail s → IsCareful r own s) past

-- each step of the other runs is orderly
abbrev pub OthersAreOrderly : ℕ → List Event → Type 0
OthersAreOrderly run past = AtSteps (λ r. r ≢ run) (λ r own s. IsOrderly own s) past

-- a number of a folder or a mail directory that led to a file before the event, and leads to one after it, leads to the
-- same
abbrev pub TakesNone : World → Event → List Event → Type 0
TakesNone start e past =
    (p : Place) → IsLockable p → (number : List ℕ) (f g : ℕ) → is_number (kind_of number) ≡ true
    → Leads start past p number f → Leads start (e ∷ past) p number g → f ≡ g

-- no step of these events made a number that led to a file lead to another
abbrev pub TakesNoNumber : World → List Event → Type 0
TakesNoNumber start [] = Unit {0}
TakesNoNumber start (Act r s a m ∷ past) = TakesNone start (Act r s a m) past × TakesNoNumber start past
TakesNoNumber start (Deliver path piece ∷ past) = TakesNoNumber start past
TakesNoNumber start (Crash v ∷ past) = TakesNoNumber start past
TakesNoNumber start (End r ∷ past) = TakesNoNumber start past

-- each own step that changes something is one that the pledge lets be
abbrev pub StepsAsPledged : Pledge → List Event → Type 0
StepsAsPledged w past = AtSteps (λ r. r ≡ w.run) (λ r own s. (IsLook s → ⊥) → w.may_step own s) past

-- so where the run had made no step before the call, and a story is told
abbrev pub GoesAsPledged : Pledge → Option Story → Option Story → Type 0
GoesAsPledged w None None = Unit {0}
GoesAsPledged w (Some old) (Some new) =
    has_acted (past_of old.history) w.run ≡ false → StepsAsPledged w (past_of new.history)
GoesAsPledged w None (Some new) = ⊥
GoesAsPledged w (Some old) None = ⊥

-- each own commit writes what the command makes of the base, the text that the run read or committed under its lock
abbrev pub CommitsItsBases : Pledge → List Event → Type 0
CommitsItsBases w past = AtSteps (λ r. r ≡ w.run) (λ r own s. Marks w own s) past

abbrev pub GoesByBases : Pledge → Option Story → Option Story → Type 0
GoesByBases w None None = Unit {0}
GoesByBases w (Some old) (Some new) =
    has_acted (past_of old.history) w.run ≡ false → CommitsItsBases w (past_of new.history)
GoesByBases w None (Some new) = ⊥
GoesByBases w (Some old) None = ⊥

-- where a story may be relied on: it began at a start, was possible, the run had made no step in it, the run numbers
-- are fresh, and each other run is careful
pub record IsSetting (run : ℕ) (old new : Story) : Type 0 where
  pub start : IsStart old.start
  pub possible : IsPossible old
  pub unused : has_acted (past_of old.history) run ≡ false
  pub none : HasNoneOfTheirs new.start (past_of new.history)
  pub others : OthersAreCareful run (past_of new.history)

-- no mail is lost, and no number taken
pub record IsSafe (story : Story) : Type 0 where
  pub loses_nothing : LosesNothing story.start (past_of story.history)
  pub takes_no_number : TakesNoNumber story.start (past_of story.history)

-- the run made no step yet, where a story is told
abbrev pub IsUnused : ℕ → Option Story → Type 0
IsUnused run None = Unit {0}
IsUnused run (Some s) = has_acted (past_of s.history) run ≡ false

-- a call leaves a story that may be relied on safe
abbrev pub StaysSafe : ℕ → Option Story → Option Story → Type 0
StaysSafe run None None = Unit {0}
StaysSafe run (Some old) (Some new) = IsSetting run old new → IsSafe new
StaysSafe run None (Some new) = ⊥
StaysSafe run (Some old) None = ⊥

-- where this step commits a name, it writes what the command makes of the text that the file has when the step is tried
abbrev pub ReplacesText : Pledge → World → Step → List Event → Type 0
ReplacesText w start s past =
    (p : Place) (temp name : List ℕ) → s ≡ Rename p temp name → is_committed p name ≡ true → (moment : List Event)
    → IsTriedAt start w.run moment past
    → (new : List ℕ) × WasDone (Create p temp new) (own w.run past)
    × w.may_mark (own w.run past) p name (text_at (world_after start moment) p name) new

-- each own step does
abbrev pub CommitsItsMarks : Pledge → World → List Event → Type 0
CommitsItsMarks w start [] = Unit {0}
CommitsItsMarks w start (Act r s a m ∷ past) = (r ≡ w.run → ReplacesText w start s past) × CommitsItsMarks w start past
CommitsItsMarks w start (Deliver path piece ∷ past) = CommitsItsMarks w start past
CommitsItsMarks w start (Crash v ∷ past) = CommitsItsMarks w start past
CommitsItsMarks w start (End r ∷ past) = CommitsItsMarks w start past

-- a setting in which locks are honest and the others orderly too
pub record IsOrderlySetting (run : ℕ) (old new : Story) : Type 0 where
  pub setting : IsSetting run old new
  pub honest : AreHonest new.start (past_of new.history)
  pub orderly : OthersAreOrderly run (past_of new.history)

-- there the own commits are made from the texts that they replace, and all steps are orderly
pub record IsInOrder (w : Pledge) (story : Story) : Type 0 where
  pub orderly : AreOrderly (past_of story.history)
  pub commits : CommitsItsMarks w story.start (past_of story.history)

abbrev pub StaysInOrder : Pledge → Option Story → Option Story → Type 0
StaysInOrder w None None = Unit {0}
StaysInOrder w (Some old) (Some new) = IsOrderlySetting w.run old new → IsInOrder w new
StaysInOrder w None (Some new) = ⊥
StaysInOrder w (Some old) None = ⊥
