-- Files that a crash cannot take: in the world, and by a run's own account.
use Rattle.std.specs.Prelude.{◌≡◌, ℕ, true, List, [], ◌∷◌, Some}
use Rattle.mh_base.specs.Entries.{kind_of}
use Rattle.folder_files.specs.Careful.{IsPut}
use Rattle.folder_files.specs.Deeds.{Deed, did, Once, WasDone}
use Rattle.folder_files.specs.Histories.{world_after, own, IsLockable}
use Rattle.folder_files.specs.Named.{is_number, is_temp, is_temp_of}
use Rattle.folder_files.specs.Places.{is_folder}
use Rattle.folder_files.specs.Worlds.{shown}
use Rattle.folder_files.specs.declared.event.After.{After}
use Rattle.folder_files.specs.declared.event.Event.{Event}
use Rattle.folder_files.specs.declared.event.Event.TheVariants.{Act}
use Rattle.folder_files.specs.declared.place.Place.{Place}
use Rattle.folder_files.specs.declared.step.Answer.TheVariants.{Done}
use Rattle.folder_files.specs.declared.step.Step.TheVariants.{Create, Link, SyncFolder}
use Rattle.folder_files.specs.declared.world.World.{World}
use Rattle.step_plans.specs.Moments.{Leads, IsNoCrash}
use Rattle.folder_files.specs.Standing.{is_standing}

-- the file, of these bytes, was put since the last crash: a number was linked to its temporary name with the answer
-- Done, in a folder
pub data WasPut (start : World) (p : Place) (f : ℕ) (bytes : List ℕ) : List Event → Type 0 where
  now : {run : ℕ} {temp number : List ℕ} {m : After} {past : List Event} → is_folder p ≡ true
      → is_temp (kind_of temp) ≡ true → is_number (kind_of number) ≡ true
      → Leads start past p temp f → ((world_after start past).files f).bytes ≡ bytes
      → WasPut start p f bytes (Act run (Link p temp number) Done m ∷ past)
  on : {e : Event} {past : List Event} → IsNoCrash e → WasPut start p f bytes past → WasPut start p f bytes (e ∷ past)

-- the file, which a run made of these bytes, was put into a folder at some time: a number was linked to its temporary
-- name with the answer Done
pub data HasBeenPut (start : World) (p : Place) (f : ℕ) (bytes : List ℕ) : List Event → Type 0 where
  now : {run : ℕ} {temp number : List ℕ} {m : After} {past : List Event} → is_folder p ≡ true
      → is_temp_of run (kind_of temp) ≡ true → is_number (kind_of number) ≡ true
      → WasDone (Create p temp bytes) (own run past) → Leads start past p temp f
      → HasBeenPut start p f bytes (Act run (Link p temp number) Done m ∷ past)
  on : {e : Event} {past : List Event} → HasBeenPut start p f bytes past → HasBeenPut start p f bytes (e ∷ past)

-- the file, of these bytes, is durable: it had a standing name in a folder or the mail directory at the start, or it
-- was put and then, with no crash between, its folder was synced with the answer Done
pub data IsDurable (start : World) (p : Place) (f : ℕ) (bytes : List ℕ) : List Event → Type 0 where
  stood : (x : List ℕ) → IsLockable p → is_standing x ≡ true → ((shown start).directories p).safe x ≡ Some f
      → ((shown start).files f).bytes ≡ bytes
      → IsDurable start p f bytes []
  now : {run : ℕ} {m : After} {past : List Event} → WasPut start p f bytes past
      → IsDurable start p f bytes (Act run (SyncFolder p) Done m ∷ past)
  on : {e : Event} {past : List Event} → IsDurable start p f bytes past → IsDurable start p f bytes (e ∷ past)

-- by its own deeds the run put a message of these bytes
abbrev pub HasPut : ℕ → Place → List ℕ → List Deed → Type 0
HasPut run p bytes own = Once (IsPut run p bytes) own

-- and then it synced the folder
abbrev pub HasPutAndSynced : ℕ → Place → List ℕ → List Deed → Type 0
HasPutAndSynced run p bytes own = Once (λ d older. (d ≡ did (SyncFolder p) Done) × HasPut run p bytes older) own
