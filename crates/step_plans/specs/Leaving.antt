-- How a file may leave its folder.
use Rattle.std.specs.Prelude.{◌≡◌, ℕ, true, List, ◌∷◌}
use Rattle.mh_base.specs.Entries.{kind_of}
use Rattle.folder_files.specs.Careful.{WasGivenAway}
use Rattle.folder_files.specs.Histories.{own}
use Rattle.folder_files.specs.Named.{is_number, is_held_of, is_backing_up}
use Rattle.folder_files.specs.declared.event.After.{After}
use Rattle.folder_files.specs.declared.event.Event.{Event}
use Rattle.folder_files.specs.declared.event.Event.TheVariants.{Act}
use Rattle.folder_files.specs.declared.place.Place.{Place}
use Rattle.folder_files.specs.declared.step.Answer.{Answer}
use Rattle.folder_files.specs.declared.step.Step.TheVariants.{Rename, Unlink}
use Rattle.folder_files.specs.declared.world.World.{World}
use Rattle.step_plans.specs.Moments.{Tries}

-- the file was removed: at a number that led to it, a run tried to make its backup of it or to unlink it
pub data IsRemoved (start : World) (p : Place) (f : ℕ) : List Event → Type 0 where
  backed_up : {run : ℕ} {number backup : List ℕ} {a : Answer} {m : After} {past : List Event}
      → is_backing_up (kind_of number) (kind_of backup) ≡ true
      → Tries start run p number f past → IsRemoved start p f (Act run (Rename p number backup) a m ∷ past)
  unlinked : {run : ℕ} {number : List ℕ} {a : Answer} {m : After} {past : List Event}
      → is_number (kind_of number) ≡ true
      → Tries start run p number f past → IsRemoved start p f (Act run (Unlink p number) a m ∷ past)
  on : {e : Event} {past : List Event} → IsRemoved start p f past → IsRemoved start p f (e ∷ past)

-- the file was discarded: a run tried to unlink its own held name that led to it, and had not given it a number and
-- then synced the folder
pub data IsDiscarded (start : World) (p : Place) (f : ℕ) : List Event → Type 0 where
  now : {run : ℕ} {held : List ℕ} {a : Answer} {m : After} {past : List Event} → is_held_of run (kind_of held) ≡ true
      → Tries start run p held f past
      → (WasGivenAway p held (own run past) → ⊥) → IsDiscarded start p f (Act run (Unlink p held) a m ∷ past)
  on : {e : Event} {past : List Event} → IsDiscarded start p f past → IsDiscarded start p f (e ∷ past)
