-- What the cut of a mail drop rests on.
use Rattle.std.specs.Prelude.{◌≡◌, ℕ, List, [], ◌∷◌}
use Rattle.mbox_drop.specs.Drops.{messages}
use Rattle.folder_files.specs.Histories.{world_after}
use Rattle.folder_files.specs.Steps.{cut_answer}
use Rattle.folder_files.specs.declared.event.After.{After}
use Rattle.folder_files.specs.declared.event.After.TheVariants.{Made}
use Rattle.folder_files.specs.declared.event.Event.{Event}
use Rattle.folder_files.specs.declared.event.Event.TheVariants.{Act, Deliver, Crash, End}
use Rattle.folder_files.specs.declared.place.FilePath.{FilePath}
use Rattle.folder_files.specs.declared.place.Place.{Place}
use Rattle.folder_files.specs.declared.step.Answer.{Answer}
use Rattle.folder_files.specs.declared.step.Answer.TheVariants.{Done}
use Rattle.folder_files.specs.declared.step.Step.TheVariants.{ReadDrop, CutDrop}
use Rattle.folder_files.specs.declared.world.World.{World}
use Rattle.step_plans.specs.Durable.{IsDurable}

-- the event cut this file: a cut at the length that the file had was made
abbrev pub IsCut : World → FilePath → Event → List Event → Type 0
IsCut start f (Act r s a m) past =
    (n : ℕ) × (s ≡ CutDrop f n) × (m ≡ Made) × (cut_answer n ((world_after start past).outside f) ≡ Done)
IsCut start f (Deliver path piece) past = ⊥
IsCut start f (Crash v) past = ⊥
IsCut start f (End r) past = ⊥

-- since the run last asked for a piece of this file from place 0, no run has cut it
pub data IsUncut (start : World) (run : ℕ) (f : FilePath) : List Event → Type 0 where
  read : {most : ℕ} {a : Answer} {m : After} {past : List Event}
      → IsUncut start run f (Act run (ReadDrop f 0 most) a m ∷ past)
  on : {e : Event} {past : List Event} → (IsCut start f e past → ⊥) → IsUncut start run f past
      → IsUncut start run f (e ∷ past)

-- each of these files is durable in some folder, and has the bytes of the message beside it
abbrev pub AreStoredAs : World → List Event → List ℕ → List (List ℕ) → Type 0
AreStoredAs start past [] [] = Unit {0}
AreStoredAs start past [] (m ∷ ms) = ⊥
AreStoredAs start past (f ∷ fs) [] = ⊥
AreStoredAs start past (f ∷ fs) (m ∷ ms) = ((p : Place) × IsDurable start p f m past) × AreStoredAs start past fs ms

-- the file is none of these
abbrev pub IsNoneOf : ℕ → List ℕ → Type 0
IsNoneOf f [] = Unit {0}
IsNoneOf f (g ∷ gs) = (f ≡ g → ⊥) × IsNoneOf f gs

-- no two are one
abbrev pub AreApart : List ℕ → Type 0
AreApart [] = Unit {0}
AreApart (f ∷ fs) = IsNoneOf f fs × AreApart fs

-- each message of a drop of these bytes is durable in some folder, as a file of its own
abbrev pub AreDurable : World → List Event → List ℕ → Type 0
AreDurable start past bytes = (files : List ℕ) × AreStoredAs start past files (messages bytes) × AreApart files
