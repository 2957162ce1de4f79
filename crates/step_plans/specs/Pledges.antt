-- What a command pledges of its own steps.
use Rattle.std.specs.Prelude.{◌≡◌, ℕ, true, List}
use Rattle.folder_files.specs.Careful.{IsLook}
use Rattle.folder_files.specs.Commands.{Manner}
use Rattle.folder_files.specs.Deeds.{Deed, WasDone}
use Rattle.folder_files.specs.Named.{is_committed}
use Rattle.folder_files.specs.declared.place.Place.{Place}
use Rattle.folder_files.specs.declared.step.Step.{Step}
use Rattle.folder_files.specs.declared.step.Step.TheVariants as step
use Rattle.file_plans.specs.StaysCareful.{IsOwnStep}
use Rattle.step_plans.specs.Commits.{IsBase}

-- a run's number and its manner; what its commits may make of the text that they replace, by its deeds so far, the
-- place, the name, the old text and the new one; what it may say after its deeds; and what it asks for besides of each
-- step that changes something
pub record Pledge : Type 1 where
  pub run : ℕ
  pub manner : Manner
  pub may_mark : List Deed → Place → List ℕ → List ℕ → List ℕ → Type 0
  pub may_tell : List Deed → List ℕ → Type 0
  pub may_step : List Deed → Step → Type 0

-- the new text of the name is what the command makes of the base
pub record IsMarked (w : Pledge) (p : Place) (temp name : List ℕ) (own : List Deed) : Type 0 where
  pub old : List ℕ
  pub new : List ℕ
  pub is_base : IsBase w.run p name old own
  pub created : WasDone (step.Create p temp new) own
  pub made : w.may_mark own p name old new

-- a commit writes what the command makes of the base
abbrev pub Marks : Pledge → List Deed → Step → Type 0
Marks w own (step.Rename p temp name) = is_committed p name ≡ true → IsMarked w p temp name own
Marks w own s = Unit {0}

-- the step may be asked for after these own deeds: it is careful and of the command's kinds, orderly, commits as
-- pledged, and where it changes something it is one that the pledge lets be
pub record MayAsk (w : Pledge) (own : List Deed) (s : Step) : Type 0 where
  pub is_own : IsOwnStep w.run w.manner own s
  pub marks : Marks w own s
  pub steps : (IsLook s → ⊥) → w.may_step own s
