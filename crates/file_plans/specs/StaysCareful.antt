-- What a call did to the files: its story goes on, stays a possible one, and the call's own steps in it are careful and
-- of its command's kinds.
use Rattle.std.specs.Prelude.{◌≡◌, ◌++◌, ℕ, List, [], ◌∷◌, length, Option, Some, None}
use Rattle.folder_files.specs.Careful.{Kind, Keeps, IsLook}
use Rattle.folder_files.specs.Commands.{Manner, MakesStep}
use Rattle.folder_files.specs.Deeds as deeds
use Rattle.folder_files.specs.Histories.{own, past_of, IsOrderly}
use Rattle.folder_files.specs.Story.{Story, FilesState, IsPossible}
use Rattle.folder_files.specs.declared.event.After.{After}
use Rattle.folder_files.specs.declared.event.Event.{Event}
use Rattle.folder_files.specs.declared.event.Event.TheVariants.{Act}
use Rattle.folder_files.specs.declared.step.Answer.{Answer}
use Rattle.folder_files.specs.declared.step.Step.{Step}

-- after these deeds of the run a step looks; or none has failed, and it changes something in a kind, and where,
-- commands of this manner do, names of a folder or the mail directory only under its lock
pub data IsOwnStep (run : ℕ) (manner : Manner) (own : List deeds.Deed) (s : Step) : Type 0 where
  only_looks : IsLook s → IsOwnStep run manner own s
  careful : (deeds.HasFailed own → ⊥) → (kind : Kind) → Keeps run own kind s → MakesStep manner own kind s
      → IsOrderly own s → IsOwnStep run manner own s

-- at this place of a history, counted from 0, stands such a step of this run
pub record HoldsOwnStep (run : ℕ) (manner : Manner) (history : List Event) (place : ℕ) : Type 0 where
  pub before : List Event
  pub step : Step
  pub answer : Answer
  pub after : After
  pub later : List Event
  pub parts : history ≡ before ++ Act run step answer after ∷ later
  pub stands : length before ≡ place
  pub is_own : IsOwnStep run manner (own run (past_of before)) step

abbrev pub HoldOwnSteps : ℕ → Manner → List Event → List ℕ → Type 0
HoldOwnSteps run manner history [] = Unit {0}
HoldOwnSteps run manner history (n ∷ ns) = HoldsOwnStep run manner history n × HoldOwnSteps run manner history ns

-- the story went on from the same start; if it was possible, it is; and at each place that the call added to the asked
-- ones stands such a step
pub record GoesOnCarefully (run : ℕ) (manner : Manner) (old new : Story) : Type 0 where
  pub start : new.start ≡ old.start
  pub more : List Event
  pub history : new.history ≡ old.history ++ more
  pub possible : IsPossible old → IsPossible new
  pub added : List ℕ
  pub asked : new.asked ≡ old.asked ++ added
  pub own_steps : HoldOwnSteps run manner new.history added

-- the same, where a story is told
abbrev pub IsTold : ℕ → Manner → Option Story → Option Story → Type 0
IsTold run manner None None = Unit {0}
IsTold run manner (Some old) (Some new) = GoesOnCarefully run manner old new
IsTold run manner None (Some new) = ⊥
IsTold run manner (Some old) None = ⊥

abbrev pub StaysCareful : ℕ → Manner → FilesState → FilesState → Type 0
StaysCareful run manner f g = IsTold run manner f.story g.story
