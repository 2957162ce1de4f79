-- What holds after each event of a legal history of careful runs.
use Rattle.std.specs.Prelude.{◌≡◌, ◌⊎◌, ℕ, true, List}
use Rattle.folder_files.specs.Histories.{world_after, IsLockable}
use Rattle.folder_files.specs.declared.event.Event.{Event}
use Rattle.folder_files.specs.declared.place.Place.{Place}
use Rattle.folder_files.specs.declared.world.World.{World}
use Rattle.step_plans.specs.Anchors.{IsAnchor}
use Rattle.step_plans.specs.Durable.{WasPut, HasBeenPut, IsDurable}
use Rattle.step_plans.specs.Leaving.{IsRemoved, IsDiscarded}
use Rattle.step_plans.specs.Moments.{Leads, HasLed, IsMadeOnce}
use Rattle.step_plans.specs.Spending.{IsSpent, IsClear}
use Rattle.folder_files.specs.Standing.{is_standing, is_own}
use Rattle.step_plans.specs.Successors.{IsSuccessor}

-- the file was removed or discarded
abbrev pub IsLetGo : World → Place → ℕ → List Event → Type 0
IsLetGo start p f past = IsRemoved start p f past ⊎ IsDiscarded start p f past

-- a number, or a held name that isn't spent, leads to the file
pub record HasSolidName (start : World) (p : Place) (f : ℕ) (past : List Event) : Type 0 where
  pub name : List ℕ
  pub standing : is_standing name ≡ true
  pub unspent : IsSpent start p name past → ⊥
  pub leads : Leads start past p name f

-- the file has an anchor whose end is a number or a held name that isn't clear
pub record HasFirmAnchor (start : World) (p : Place) (f : ℕ) (past : List Event) : Type 0 where
  pub root : List ℕ
  pub end : List ℕ
  pub anchor : IsAnchor ((world_after start past).directories p).safe
      ((world_after start past).directories p).pending f root end
  pub standing : is_standing end ≡ true
  pub unclear : IsClear start p end past → ⊥

-- of folders and the mail directory
pub record MailInvariant (start : World) (past : List Event) : Type 0 where
  -- a temporary or held name has led to one file only
  pub one_file : (p : Place) (x : List ℕ) (f g : ℕ) → IsLockable p → is_own x ≡ true → HasLed start p x f past
      → HasLed start p x g past → f ≡ g
  -- and was made at most once
  pub made_once : (p : Place) (x : List ℕ) → IsLockable p → is_own x ≡ true → IsMadeOnce start p x past
  -- a file that was put since the last crash, or is durable, is safe and has its bytes
  pub safe : (p : Place) (f : ℕ) (bytes : List ℕ) → WasPut start p f bytes past ⊎ IsDurable start p f bytes past
      → (((world_after start past).files f).safe ≡ true) × (((world_after start past).files f).bytes ≡ bytes)
  -- a file that was ever put, also before a crash and whether or not its folder was synced, is safe with the bytes with
  -- which it was made
  pub safe_ever : (p : Place) (f : ℕ) (bytes : List ℕ) → HasBeenPut start p f bytes past
      → (((world_after start past).files f).safe ≡ true) × (((world_after start past).files f).bytes ≡ bytes)
  -- a file that was put since the last crash, or is durable, was removed or discarded, or it has a solid name in its
  -- directory
  pub solid : (p : Place) (f : ℕ) (bytes : List ℕ) → WasPut start p f bytes past ⊎ IsDurable start p f bytes past
      → HasSolidName start p f past ⊎ IsLetGo start p f past
  -- a durable file was removed or discarded, or it has an anchor whose end is a number or a held name that isn't clear
  pub anchored : (p : Place) (f : ℕ) (bytes : List ℕ) → IsDurable start p f bytes past
      → HasFirmAnchor start p f past ⊎ IsLetGo start p f past
  -- a discarded file has a successor
  pub succeeded : (p : Place) (f : ℕ) → IsLockable p → IsDiscarded start p f past
      → (q : Place) × (g : ℕ) × (bytes : List ℕ) × (copy : List ℕ) × IsSuccessor start p f q g bytes copy past
  -- each successor of a discarded file is durable
  pub successors : (p : Place) (f : ℕ) (q : Place) (g : ℕ) (bytes copy : List ℕ) → IsLockable p
      → IsSuccessor start p f q g bytes copy past → IsDurable start q g copy past
