-- Histories as the newest event first: their worlds, their runs' deeds, and which are legal.
use Rattle.std.specs.Prelude.{◌≡◌, ◌≢◌, ◌++◌, ◌==◌, ◌||◌, ◌+◌, ℕ, Bool, true, false, List, [], ◌∷◌, take, reverse, Option, Some, None, if◌then◌else◌}
use Rattle.folder_files.specs.Places.{same_path}
use Rattle.folder_files.specs.Worlds.{WorldMap, shown}
use Rattle.folder_files.specs.Steps.{Fits, made, left_by, MayLeave}
use Rattle.folder_files.specs.CrashImage.{IsCrashImage}
use Rattle.folder_files.specs.Deeds.{Deed, did}
use Rattle.folder_files.specs.Careful.{IsCareful, HasLock}
use Rattle.folder_files.specs.declared.place.Place.{Place}
use Rattle.folder_files.specs.declared.place.Place.TheVariants.{Home, Work, Mail, Folder}
use Rattle.folder_files.specs.declared.place.FilePath.{FilePath}
use Rattle.folder_files.specs.declared.step.Step.{Step}
use Rattle.folder_files.specs.declared.step.Step.TheVariants as step
use Rattle.folder_files.specs.declared.step.Answer.{Answer}
use Rattle.folder_files.specs.declared.step.Answer.TheVariants.{Done, Failed}
use Rattle.folder_files.specs.declared.event.After.{After}
use Rattle.folder_files.specs.declared.event.After.TheVariants.{Before, Made}
use Rattle.folder_files.specs.declared.event.Event.{Event}
use Rattle.folder_files.specs.declared.event.Event.TheVariants.{Act, Deliver, Crash, End}
use Rattle.folder_files.specs.declared.world.World.{World}

-- the bytes after those that are there; a missing file is made
abbrev pub delivered : Option (List ℕ) → List ℕ → Option (List ℕ)
delivered None piece = Some piece
delivered (Some bytes) piece = Some (bytes ++ piece)

abbrev pub after_delivery : WorldMap → FilePath → List ℕ → WorldMap
after_delivery w path piece =
    record w { outside = λ f. if same_path path f then delivered (w.outside f) piece else w.outside f }

-- the run's locks fall, and it has ended
abbrev pub after_end : WorldMap → ℕ → WorldMap
after_end w run =
    record w { holds = λ p r. if run == r then false else w.holds p r; ended = λ r. (run == r) || w.ended r }

abbrev pub after_event : WorldMap → Event → WorldMap
after_event w (Act run s a m) = left_by w run s a m
after_event w (Deliver path piece) = after_delivery w path piece
after_event w (Crash v) = shown v
after_event w (End run) = after_end w run

-- the world after these events
unfoldable pub world_after : World → List Event → WorldMap
world_after start [] = shown start
world_after start (e ∷ past) = after_event (world_after start past) e

-- the deed of this run that an event is
abbrev pub deed_of : ℕ → Event → List Deed
deed_of run (Act r s a m) = if r == run then did s a ∷ [] else []
deed_of run (Deliver path piece) = []
deed_of run (Crash v) = []
deed_of run (End r) = []

-- a run's own steps with their answers
unfoldable pub own : ℕ → List Event → List Deed
own run [] = []
own run (e ∷ past) = deed_of run e ++ own run past

abbrev pub has_acted : List Event → ℕ → Bool
has_acted [] run = false
has_acted (Act r s a m ∷ past) run = (r == run) || has_acted past run
has_acted (Deliver path piece ∷ past) run = has_acted past run
has_acted (Crash v ∷ past) run = has_acted past run
has_acted (End r ∷ past) run = has_acted past run

-- the run has not ended
abbrev pub IsLive : ℕ → WorldMap → Type 0
IsLive run w = w.ended run ≡ false

-- a legal history: each step has an answer, and leaves what it may leave; a crash leaves an image; a crash within a
-- step leaves an image of the world with that step made, and the step stands after it as failed
pub data IsLegal (start : World) : List Event → Type 0 where
  begins : IsLegal start []
  answers : (run : ℕ) (s : Step) (a : Answer) {past : List Event} → IsLegal start past
      → IsLive run (world_after start past) → Fits (world_after start past) run s a
      → IsLegal start (Act run s a Made ∷ past)
  fails : (run : ℕ) (s : Step) (m : After) {past : List Event} → IsLegal start past
      → IsLive run (world_after start past) → MayLeave s m
      → IsLegal start (Act run s Failed m ∷ past)
  is_dead : (run : ℕ) (s : Step) {past : List Event} → IsLegal start past → (world_after start past).ended run ≡ true
      → IsLegal start (Act run s Failed Before ∷ past)
  delivers : (path : FilePath) (piece : List ℕ) {past : List Event} → IsLegal start past
      → IsLegal start (Deliver path piece ∷ past)
  crashes : (v : World) {past : List Event} → IsLegal start past
      → IsCrashImage (world_after start past) (shown v) (has_acted past)
      → IsLegal start (Crash v ∷ past)
  crashes_within : (v : World) (run : ℕ) (s : Step) {past : List Event} → IsLegal start past
      → IsLive run (world_after start past)
      → IsCrashImage (made (world_after start past) run s) (shown v) (λ r. (run == r) || has_acted past r)
      → IsLegal start (Act run s Failed Before ∷ (Crash v ∷ past))
  stops : (run : ℕ) {past : List Event} → IsLegal start past → IsLegal start (End run ∷ past)

-- a directory whose changes need its lock: a folder or the mail directory
abbrev pub IsLockable : Place → Type 0
IsLockable Home = ⊥
IsLockable Work = ⊥
IsLockable (Mail path) = Unit {0}
IsLockable (Folder path name) = Unit {0}

-- a step in a folder or the mail directory, or a cut of a drop
abbrev pub IsOnMail : Step → Type 0
IsOnMail (step.List p) = IsLockable p
IsOnMail (step.Read p n limit) = IsLockable p
IsOnMail (step.MakeFolder p) = IsLockable p
IsOnMail (step.Create p n b) = IsLockable p
IsOnMail (step.SyncFile p n) = IsLockable p
IsOnMail (step.SyncFolder p) = IsLockable p
IsOnMail (step.Link p a b) = IsLockable p
IsOnMail (step.Rename p a b) = IsLockable p
IsOnMail (step.Unlink p a) = IsLockable p
IsOnMail (step.Lock p) = IsLockable p
IsOnMail (step.Unlock p) = IsLockable p
IsOnMail (step.ReadFile f limit) = ⊥
IsOnMail (step.ReadDrop f from most) = ⊥
IsOnMail (step.CutDrop f length_) = Unit {0}

-- each step in a folder or the mail directory, and each cut of a drop, is careful after its run's deeds
abbrev pub AreCareful : List Event → Type 0
AreCareful [] = Unit {0}
AreCareful (Act run s a m ∷ past) = (IsOnMail s → IsCareful run (own run past) s) × AreCareful past
AreCareful (Deliver path piece ∷ past) = AreCareful past
AreCareful (Crash v ∷ past) = AreCareful past
AreCareful (End run ∷ past) = AreCareful past

-- the lock is had by no other run
abbrev pub HeldByNoOther : WorldMap → Place → ℕ → Type 0
HeldByNoOther w p run = (other : ℕ) → other ≢ run → w.holds p other ≡ false

-- no lock is had by two runs
abbrev pub AreHonest : World → List Event → Type 0
AreHonest start [] = Unit {0}
AreHonest start (Act run (step.Lock p) Done m ∷ past) =
    HeldByNoOther (world_after start past) p run × AreHonest start past
AreHonest start (e ∷ past) = AreHonest start past

-- a step that changes the names of this directory
abbrev pub Changes : Place → Step → Type 0
Changes p (step.Create q n b) = p ≡ q
Changes p (step.Link q a b) = p ≡ q
Changes p (step.Rename q a b) = p ≡ q
Changes p (step.Unlink q a) = p ≡ q
Changes p s = ⊥

-- after these deeds of its run the step changes names of a folder or the mail directory only under that directory's
-- lock
abbrev pub IsOrderly : List Deed → Step → Type 0
IsOrderly own s = (p : Place) → IsLockable p → Changes p s → HasLock p own

-- each step is orderly after its run's deeds
abbrev pub AreOrderly : List Event → Type 0
AreOrderly [] = Unit {0}
AreOrderly (Act run s a m ∷ past) = IsOrderly (own run past) s × AreOrderly past
AreOrderly (Deliver path piece ∷ past) = AreOrderly past
AreOrderly (Crash v ∷ past) = AreOrderly past
AreOrderly (End run ∷ past) = AreOrderly past

-- the history as lists of the code tell it, the oldest event first
abbrev pub past_of : List Event → List Event
past_of history = reverse history

-- places that follow each other without a gap
abbrev pub AreConsecutive : List ℕ → Type 0
AreConsecutive [] = Unit {0}
AreConsecutive (n ∷ []) = Unit {0}
AreConsecutive (n ∷ (m ∷ places)) = (m ≡ n + 1) × AreConsecutive (m ∷ places)

-- before the first of these places of a history no other run has a lock
abbrev pub AreUnlocked : ℕ → World → List Event → List ℕ → Type 0
AreUnlocked run start history [] = Unit {0}
AreUnlocked run start history (n ∷ places) =
    (p : Place) → HeldByNoOther (world_after start (past_of (take n history))) p run

-- the steps at these places were made alone: nothing else happened between them, and no other run had a lock
pub record IsAlone (run : ℕ) (start : World) (history : List Event) (places : List ℕ) : Type 0 where
  pub consecutive : AreConsecutive places
  pub unlocked : AreUnlocked run start history places
