-- What it means that a history loses no message.
use Rattle.std.specs.Prelude.{◌≡◌, ℕ, Bool, true, List, Some}
use Rattle.folder_files.specs.Annotations.{Annotates}
use Rattle.folder_files.specs.CrashImage.{IsCrashImage}
use Rattle.folder_files.specs.Directory.{now_in}
use Rattle.folder_files.specs.Histories.{world_after}
use Rattle.folder_files.specs.Worlds.{WorldMap}
use Rattle.folder_files.specs.declared.event.Event.{Event}
use Rattle.folder_files.specs.declared.place.Place.{Place}
use Rattle.folder_files.specs.declared.world.World.{World}
use Rattle.step_plans.specs.Durable.{IsDurable}
use Rattle.step_plans.specs.Leaving.{IsRemoved, IsDiscarded}
use Rattle.folder_files.specs.Standing.{is_standing}
use Rattle.step_plans.specs.Successors.{IsSuccessor}

-- in this world a number or a held name of the directory leads to the file, and the file has these bytes
abbrev pub Stands : WorldMap → Place → ℕ → List ℕ → Type 0
Stands w p f bytes =
    (x : List ℕ) × (is_standing x ≡ true) × (now_in (w.directories p) x ≡ Some f) × ((w.files f).bytes ≡ bytes)

-- the file stands in the world, and in each world that a crash may leave of it
pub record StandsFirm (w : WorldMap) (p : Place) (f : ℕ) (bytes : List ℕ) : Type 0 where
  pub now : Stands w p f bytes
  pub later : (v : WorldMap) (acted : ℕ → Bool) → IsCrashImage w v acted → Stands v p f bytes

-- the file has a successor
abbrev pub HasSuccessor : World → List Event → Place → ℕ → List ℕ → Type 0
HasSuccessor start past p f bytes = (q : Place) × (g : ℕ) × (copy : List ℕ) × IsSuccessor start p f q g bytes copy past

-- the successor is durable, and its bytes are the file's with zero or more lines before them
abbrev pub IsTrueSuccessor : World → List Event → List ℕ → Place → ℕ → List ℕ → Type 0
IsTrueSuccessor start past bytes q g copy = IsDurable start q g copy past × Annotates bytes copy

-- the file of these bytes was removed; or it stands firm; or it was discarded, has a successor, and each of its
-- successors is a true one and meets this again. By its making, the chain of successors ends
pub data IsKept (start : World) (past : List Event) : Place → ℕ → List ℕ → Type 0 where
  removed : {p : Place} {f : ℕ} {bytes : List ℕ} → IsRemoved start p f past → IsKept start past p f bytes
  stands : {p : Place} {f : ℕ} {bytes : List ℕ} → StandsFirm (world_after start past) p f bytes
      → IsKept start past p f bytes
  discarded : {p : Place} {f : ℕ} {bytes : List ℕ} → IsDiscarded start p f past → HasSuccessor start past p f bytes
      → ((q : Place) (g : ℕ) (read copy : List ℕ) → IsSuccessor start p f q g read copy past
      → IsTrueSuccessor start past bytes q g copy)
      → ((q : Place) (g : ℕ) (read copy : List ℕ) → IsSuccessor start p f q g read copy past
      → IsKept start past q g copy)
      → IsKept start past p f bytes

-- each durable file is kept
abbrev pub LosesNothing : World → List Event → Type 0
LosesNothing start past =
    (p : Place) (f : ℕ) (bytes : List ℕ) → IsDurable start p f bytes past → IsKept start past p f bytes
