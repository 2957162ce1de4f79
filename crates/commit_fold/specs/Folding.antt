-- The text of a name as the fold of its commits.
use Rattle.std.specs.Prelude.{◌≡◌, ◌++◌, ◌⊎◌, ◌≤◌, ℕ, suc, Bool, List, [], ◌∷◌}
use Rattle.folder_files.specs.CrashImage.{IsCrashImage}
use Rattle.folder_files.specs.Deeds.{Deed, WasDone, HasFailed}
use Rattle.folder_files.specs.Histories.{own, world_after}
use Rattle.folder_files.specs.Worlds.{WorldMap}
use Rattle.folder_files.specs.declared.event.Event.{Event}
use Rattle.folder_files.specs.declared.event.Event.TheVariants.{Act, Deliver, Crash, End}
use Rattle.folder_files.specs.declared.place.Place.{Place}
use Rattle.folder_files.specs.declared.step.Step.{Step}
use Rattle.folder_files.specs.declared.step.Step.TheVariants.{Create, Rename}
use Rattle.folder_files.specs.declared.world.World.{World}
use Rattle.step_plans.specs.Commits.{text_at, IsBase}
use Rattle.step_plans.specs.Moments.{IsTriedAt}
use Rattle.commit_fold.specs.Counting.{Commit, Counts, AreSynced, done_in, turns_of, below}

-- a commit of the name, after these deeds of its run, writes what its change may make of its base
abbrev pub Changes : (ℕ → ℕ → List ℕ → List ℕ → Type 0) → Place → List ℕ → ℕ → List Deed → Step → Type 0
Changes may p name run own s =
    (temp : List ℕ) → s ≡ Rename p temp name
    → (base : List ℕ) × (text : List ℕ) × IsBase run p name base own × WasDone (Create p temp text) own
    × may run (done_in p name own) base text

-- each commit of the name in these events does
abbrev pub AreChanges : (ℕ → ℕ → List ℕ → List ℕ → Type 0) → Place → List ℕ → List Event → Type 0
AreChanges may p name [] = Unit {0}
AreChanges may p name (Act r s a m ∷ past) = Changes may p name r (own r past) s × AreChanges may p name past
AreChanges may p name (Deliver path piece ∷ past) = AreChanges may p name past
AreChanges may p name (Crash v ∷ past) = AreChanges may p name past
AreChanges may p name (End r ∷ past) = AreChanges may p name past

-- a commit of the name writes what its change may make of the text that it replaces: that which the file has when the
-- step is tried
abbrev pub Replaces : (ℕ → ℕ → List ℕ → List ℕ → Type 0) → World → Place → List ℕ → ℕ → Step → List Event → Type 0
Replaces may start p name run s past =
    (temp : List ℕ) → s ≡ Rename p temp name → (moment : List Event) → IsTriedAt start run moment past
    → (text : List ℕ) × WasDone (Create p temp text) (own run past)
    × may run (done_in p name (own run past)) (text_at (world_after start moment) p name) text

-- each commit of the name in these events does
abbrev pub AreReplacing : (ℕ → ℕ → List ℕ → List ℕ → Type 0) → World → Place → List ℕ → List Event → Type 0
AreReplacing may start p name [] = Unit {0}
AreReplacing may start p name (Act r s a m ∷ past) =
    Replaces may start p name r s past × AreReplacing may start p name past
AreReplacing may start p name (Deliver path piece ∷ past) = AreReplacing may start p name past
AreReplacing may start p name (Crash v ∷ past) = AreReplacing may start p name past
AreReplacing may start p name (End r ∷ past) = AreReplacing may start p name past

-- each commit of the name that this run made does: what a command promises of its own
abbrev pub OwnAreReplacing : (ℕ → ℕ → List ℕ → List ℕ → Type 0) → ℕ → World → Place → List ℕ → List Event → Type 0
OwnAreReplacing may run start p name [] = Unit {0}
OwnAreReplacing may run start p name (Act r s a m ∷ past) =
    (r ≡ run → Replaces may start p name r s past) × OwnAreReplacing may run start p name past
OwnAreReplacing may run start p name (Deliver path piece ∷ past) = OwnAreReplacing may run start p name past
OwnAreReplacing may run start p name (Crash v ∷ past) = OwnAreReplacing may run start p name past
OwnAreReplacing may run start p name (End r ∷ past) = OwnAreReplacing may run start p name past

-- what these commits make of a text, or of what it says; the newest last
abbrev pub fold : {V : Type 0} → (ℕ → ℕ → V → V) → List Commit → V → V
fold change [] text = text
fold change (c ∷ cs) text = change c.run c.turn (fold change cs text)

-- the same where a change may have several outcomes
pub data Makes (may : ℕ → ℕ → List ℕ → List ℕ → Type 0) (old : List ℕ) : List Commit → List ℕ → Type 0 where
  none : Makes may old [] old
  more : {c : Commit} {cs : List Commit} {text new : List ℕ} → Makes may old cs text → may c.run c.turn text new
      → Makes may old (c ∷ cs) new

-- a commit whose text says what its mark makes of what the old one says: of each sequence by its name, which numbers it
-- has
abbrev pub marking : (List ℕ → List ℕ → ℕ → Bool) → (ℕ → ℕ → (List ℕ → ℕ → Bool) → List ℕ → ℕ → Bool) → ℕ → ℕ → List ℕ
    → List ℕ → Type 0
marking says mark run turn old new = says new ≡ mark run turn (says old)

-- a change that has one outcome
abbrev pub by : (ℕ → ℕ → List ℕ → List ℕ) → ℕ → ℕ → List ℕ → List ℕ → Type 0
by change run turn old new = new ≡ change run turn old

-- the run's commits among these are its first ones: all those that were answered Done or fewer, or these and one more
-- that was answered Failed
abbrev pub HasFront : Place → List ℕ → List Deed → ℕ → List Commit → Type 0
HasFront p name own run cs =
    (n : ℕ) × (turns_of run cs ≡ below n)
    × ((n ≤ done_in p name own) ⊎ ((n ≤ suc (done_in p name own)) × HasFailed own))

-- all the run's commits that were answered Done are among these, and no other
abbrev pub HasWhole : Place → List ℕ → List Deed → ℕ → List Commit → Type 0
HasWhole p name own run cs = turns_of run cs ≡ below (done_in p name own)

-- what these commits tell of the name after these events: Made says which texts they make
pub record Tells (start : World) (p : Place) (name : List ℕ) (Made : List Commit → List ℕ → Type 0)
    (loose firm : List Commit) (past : List Event) : Type 0 where
  -- in the world all count
  pub now : Made (loose ++ firm) (text_at (world_after start past) p name)
  -- in an image some of the newest loose ones do not
  pub later : (v : WorldMap) (acted : ℕ → Bool) → IsCrashImage (world_after start past) v acted
      → (newer : List Commit) × (older : List Commit) × (loose ≡ newer ++ older)
      × Made (older ++ firm) (text_at v p name)
  -- of each run a front part of its commits counts
  pub front : (run : ℕ) → HasFront p name (own run past) run (loose ++ firm)
  -- of a run none of whose steps failed, and that synced after its commits, all count and are firm
  pub whole : (run : ℕ) → (HasFailed (own run past) → ⊥) → AreSynced p name (own run past)
      → HasWhole p name (own run past) run firm × (turns_of run loose ≡ [])

-- the text of the name after these events, and at each moment before, is what the commits make that count then, in
-- their order
pub record IsFold (start : World) (p : Place) (name : List ℕ) (Made : List Commit → List ℕ → Type 0)
    (past : List Event) : Type 0 where
  pub loose : List Commit
  pub firm : List Commit
  pub counts : Counts start p name (Tells start p name Made) loose firm past
  pub tells : Tells start p name Made loose firm past
