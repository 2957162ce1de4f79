-- Commits: the texts of the files that are written anew, and what such a text was made from.
use Rattle.std.specs.Prelude.{◌≡◌, ◌≢◌, ℕ, Bool, true, List, [], ◌∷◌, Option, Some, None}
use Rattle.mh_base.specs.Entries.{kind_of}
use Rattle.folder_files.specs.Careful.{IsRead, IsKnown, HasLock}
use Rattle.folder_files.specs.CrashImage.{IsCrashImage}
use Rattle.folder_files.specs.Deeds.{Deed, did, WasDone}
use Rattle.folder_files.specs.Directory.{now_in}
use Rattle.folder_files.specs.Histories.{own, world_after}
use Rattle.folder_files.specs.Named.{is_temp_of}
use Rattle.folder_files.specs.Worlds.{WorldMap}
use Rattle.folder_files.specs.declared.event.After.{After}
use Rattle.folder_files.specs.declared.event.After.TheVariants.{Made}
use Rattle.folder_files.specs.declared.event.Event.{Event}
use Rattle.folder_files.specs.declared.event.Event.TheVariants.{Act, Deliver, Crash, End}
use Rattle.folder_files.specs.declared.place.Place.{Place}
use Rattle.folder_files.specs.declared.step.Answer.TheVariants.{Done, Gone}
use Rattle.folder_files.specs.declared.step.Step.TheVariants.{Create, Read, Rename, SyncFolder, Unlock}
use Rattle.folder_files.specs.declared.world.World.{World}
use Rattle.step_plans.specs.Moments.{IsNoCrash, Tries}

-- the bytes of a file; no bytes where there is none
abbrev pub text_of : WorldMap → Option ℕ → List ℕ
text_of w None = []
text_of w (Some f) = (w.files f).bytes

-- the text of the file to which the name leads in this world
abbrev pub text_at : WorldMap → Place → List ℕ → List ℕ
text_at w p name = text_of w (now_in (w.directories p) name)

-- the base: what the run's last reading of the name, or its later commit of it, had under the present lock; a missing
-- file has no bytes
pub data IsBase (run : ℕ) (p : Place) (name : List ℕ) : List ℕ → List Deed → Type 0 where
  found : {d : Deed} {older : List Deed} {text : List ℕ} → IsRead p name text d → HasLock p older
      → IsBase run p name text (d ∷ older)
  missing : {d : Deed} {older : List Deed} {limit : ℕ} → d ≡ did (Read p name limit) Gone → HasLock p older
      → IsBase run p name [] (d ∷ older)
  committed : {d : Deed} {older : List Deed} {temp text : List ℕ} → d ≡ did (Rename p temp name) Done
      → is_temp_of run (kind_of temp) ≡ true
      → WasDone (Create p temp text) older → HasLock p older → IsBase run p name text (d ∷ older)
  on : {d : Deed} {older : List Deed} {text : List ℕ} → d.step ≢ Unlock p → (IsKnown run p name d → ⊥)
      → IsBase run p name text older → IsBase run p name text (d ∷ older)

-- the event is a commit of this name, tried by whatever run: a rename to it of a name that led to a file
abbrev pub TriesCommit : World → Place → List ℕ → Event → List Event → Type 0
TriesCommit start p name (Act r s a m) past =
    (temp : List ℕ) × (f : ℕ) × (s ≡ Rename p temp name) × Tries start r p temp f past
TriesCommit start p name (Deliver path piece) past = ⊥
TriesCommit start p name (Crash v) past = ⊥
TriesCommit start p name (End r) past = ⊥

-- a commit of this text was answered Done, and neither a crash nor another commit of the name has come since
pub data IsCommitted (start : World) (p : Place) (name text : List ℕ) : List Event → Type 0 where
  now : {run : ℕ} {temp : List ℕ} {m : After} {past : List Event} → is_temp_of run (kind_of temp) ≡ true
      → WasDone (Create p temp text) (own run past)
      → IsCommitted start p name text (Act run (Rename p temp name) Done m ∷ past)
  on : {e : Event} {past : List Event} → IsNoCrash e → (TriesCommit start p name e past → ⊥)
      → IsCommitted start p name text past → IsCommitted start p name text (e ∷ past)

-- and then its directory was synced, with the answer Done; no other commit of the name has come since
pub data IsSettled (start : World) (p : Place) (name text : List ℕ) : List Event → Type 0 where
  now : {run : ℕ} {m : After} {past : List Event} → IsCommitted start p name text past
      → IsSettled start p name text (Act run (SyncFolder p) Done m ∷ past)
  on : {e : Event} {past : List Event} → (TriesCommit start p name e past → ⊥) → IsSettled start p name text past
      → IsSettled start p name text (e ∷ past)

-- the file has this text in the world, and in each world that a crash may leave of it
pub record HasTextFirmly (w : WorldMap) (p : Place) (name text : List ℕ) : Type 0 where
  pub now : text_at w p name ≡ text
  pub later : (v : WorldMap) (acted : ℕ → Bool) → IsCrashImage w v acted → text_at v p name ≡ text

-- an event that does not make the directory's changes safe: no sync of it, or one that was not made
abbrev pub IsNoSync : Place → Event → Type 0
IsNoSync p (Act r s a m) = s ≡ SyncFolder p → m ≡ Made → ⊥
IsNoSync p (Deliver path piece) = Unit {0}
IsNoSync p (Crash v) = Unit {0}
IsNoSync p (End r) = Unit {0}

-- the file had this text at some moment since its directory was last synced, since the last crash, or since the start
pub data HadText (start : World) (p : Place) (name text : List ℕ) : List Event → Type 0 where
  now : {past : List Event} → text_at (world_after start past) p name ≡ text → HadText start p name text past
  on : {e : Event} {past : List Event} → IsNoSync p e → IsNoCrash e → HadText start p name text past
      → HadText start p name text (e ∷ past)
