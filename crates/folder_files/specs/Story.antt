-- What files tell of themselves, and how a call adds to it.
use Rattle.std.specs.Prelude.{◌≡◌, ◌≢◌, ◌++◌, ◌∷◌, [], List, ℕ, ◌+◌, ◌≤◌, Option, Some, None, map, length}
use Rattle.mh_base.specs.Counts.{Rose}
use Rattle.folder_files.specs.Histories.{IsLegal, past_of}
use Rattle.folder_files.specs.declared.step.Step.{Step}
use Rattle.folder_files.specs.declared.step.Answer.{Answer}
use Rattle.folder_files.specs.declared.step.Answer.TheVariants.{Failed}
use Rattle.folder_files.specs.declared.event.After.{After}
use Rattle.folder_files.specs.declared.event.Event.{Event}
use Rattle.folder_files.specs.declared.event.Event.TheVariants.{Act, Deliver, Crash, End}
use Rattle.folder_files.specs.declared.world.World.{World}

-- what is told: the start, all events since, and the places of the steps that calls asked for
pub record Story : Type 0 where
  pub start : World
  pub history : List Event
  pub asked : List ℕ

-- what files tell, where they tell it, and how often they have failed
pub record FilesState : Type 0 where
  pub story : Option Story
  pub faults : ℕ

-- an event seen from one run's calls
pub data Moment : Type 0 where
  Mine : (step : Step) (answer : Answer) (after : After) → Moment
  Theirs : (event : Event) → Moment

abbrev pub event_of : ℕ → Moment → Event
event_of run (Mine s a f) = Act run s a f
event_of run (Theirs e) = e

-- the places of my moments, where the first moment stands at n
abbrev pub places : ℕ → List Moment → List ℕ
places n [] = []
places n (Mine s a f ∷ ms) = n ∷ places (n + 1) ms
places n (Theirs e ∷ ms) = places (n + 1) ms

-- an event that is neither a step of this run nor its end
abbrev pub IsOther : ℕ → Event → Type 0
IsOther run (Act r s a f) = r ≢ run
IsOther run (Deliver p b) = Unit {0}
IsOther run (Crash w) = Unit {0}
IsOther run (End r) = r ≢ run

abbrev pub AreOthers : ℕ → List Moment → Type 0
AreOthers run [] = Unit {0}
AreOthers run (Mine s a f ∷ ms) = AreOthers run ms
AreOthers run (Theirs e ∷ ms) = IsOther run e × AreOthers run ms

-- what is told may have happened
abbrev pub IsPossible : Story → Type 0
IsPossible s = IsLegal s.start (past_of s.history)

-- the story went on by these moments, and stays a possible one
pub record Grows (run : ℕ) (old new : Story) (log : List Moment) : Type 0 where
  pub start : new.start ≡ old.start
  pub history : new.history ≡ old.history ++ map (event_of run) log
  pub asked : new.asked ≡ old.asked ++ places (length old.history) log
  pub others : AreOthers run log
  pub possible : IsPossible old → IsPossible new

-- the same, where a story is told
abbrev pub GrowsBy : ℕ → Option Story → Option Story → List Moment → Type 0
GrowsBy run None None log = Unit {0}
GrowsBy run (Some old) (Some new) log = Grows run old new log
GrowsBy run None (Some new) log = ⊥
GrowsBy run (Some old) None log = ⊥

-- one step with its answer, after what others did
abbrev pub Asks : ℕ → Option Story → Option Story → Step → Answer → Type 0
Asks run old new s a = (others : List Event) × (f : After) × GrowsBy run old new (map Theirs others ++ Mine s a f ∷ [])

-- nothing but what others did
abbrev pub Waits : ℕ → Option Story → Option Story → Type 0
Waits run old new = (others : List Event) × GrowsBy run old new (map Theirs others)

-- the count doesn't fall, and has risen where the answer is Failed
abbrev pub Counts : ℕ → ℕ → Answer → Type 0
Counts before now a = (before ≤ now) × (a ≡ Failed → Rose before now)
