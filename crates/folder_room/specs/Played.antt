-- What a script makes of a history at one call of `act`, and how the call ends.
use Rattle.std.specs.Prelude.{◌≡◌, ◌≢◌, ◌⊎◌, ◌==◌, ◌||◌, ℕ, Bool, true, false, List, [], ◌∷◌, Option, Some, None, Result, Ok, Err, if◌then◌else◌}
use Rattle.std.specs.declared.alloc.AllocError.{AllocError}
use Rattle.folder_files.specs.Careful.{IsCareful}
use Rattle.folder_files.specs.Histories.{own, has_acted, world_after, IsLive}
use Rattle.folder_files.specs.Steps.{Fits, made}
use Rattle.folder_files.specs.Worlds.{WorldMap, shown}
use Rattle.folder_files.specs.declared.place.FilePath.{FilePath}
use Rattle.folder_files.specs.declared.step.Step.{Step}
use Rattle.folder_files.specs.declared.step.Step.TheVariants as step
use Rattle.folder_files.specs.declared.step.Answer.{Answer}
use Rattle.folder_files.specs.declared.step.Answer.TheVariants.{Done, Failed}
use Rattle.folder_files.specs.declared.event.After.{After}
use Rattle.folder_files.specs.declared.event.After.TheVariants.{Before, Made, Torn}
use Rattle.folder_files.specs.declared.event.Event.{Event}
use Rattle.folder_files.specs.declared.event.Event.TheVariants as event
use Rattle.folder_files.specs.declared.world.World.{World}
use Rattle.folder_room.specs.Crashing.{IsCrashBy}
use Rattle.folder_room.specs.declared.script.Happening.{Happening}
use Rattle.folder_room.specs.declared.script.Happening.TheVariants.{Other, Deliver, Fail, Crash}
use Rattle.folder_room.specs.declared.script.Keep.{Keep}
use Rattle.folder_room.specs.declared.script.Prompt.{Prompt}

-- what the script has for the call of this number, in its order
abbrev pub turn_of : ℕ → List Prompt → List Happening
turn_of call [] = []
turn_of call (p ∷ ps) = if p.at == call then p.what ∷ turn_of call ps else turn_of call ps

abbrev pub later_or : After → Option After → Option After
later_or m None = Some m
later_or m (Some later) = Some later

-- what the last Fail of a turn says
abbrev pub fail_of : List Happening → Option After
fail_of [] = None
fail_of (Fail m ∷ turn) = later_or m (fail_of turn)
fail_of (Other r s ∷ turn) = fail_of turn
fail_of (Deliver path piece ∷ turn) = fail_of turn
fail_of (Crash keeps fill is_made ∷ turn) = fail_of turn

-- the runs that acted, and this one
abbrev pub has_acted_or_is : ℕ → List Event → ℕ → Bool
has_acted_or_is run past r = (run == r) || has_acted past r

-- this run's own step, or one that isn't careful
abbrev pub IsSkipped : ℕ → List Event → ℕ → Step → Type 0
IsSkipped run past r s = (r ≡ run) ⊎ (IsCareful r (own r past) s → ⊥)

-- a crash within the step: the last of its turn, said to come after the step was made
abbrev pub is_within : Happening → List Happening → Bool
is_within (Crash keeps fill true) [] = true
is_within what turn = false

-- the lock that another run has is not given
abbrev pub IsHonest : WorldMap → ℕ → Step → Answer → Type 0
IsHonest w run (step.Lock p) Done = (other : ℕ) → other ≢ run → w.holds p other ≡ false
IsHonest w run s a = Unit {0}

-- an answer that the world has for the step, and no failure; a lock that another run has is not given
pub record IsAnsweredBy (w : WorldMap) (run : ℕ) (s : Step) (a : Answer) : Type 0 where
  pub unfailed : a ≢ Failed
  pub fits : Fits w run s a
  pub honest : IsHonest w run s a

-- a scripted step of a live run was made and answered as the world has it; one of a run that has ended was not made
pub data IsActed (start : World) (run : ℕ) (s : Step) (past : List Event) : List Event → Type 0 where
  lives : (a : Answer) → IsLive run (world_after start past) → IsAnsweredBy (world_after start past) run s a
      → IsActed start run s past (event.Act run s a Made ∷ past)
  is_over : (world_after start past).ended run ≡ true → IsActed start run s past (event.Act run s Failed Before ∷ past)

-- at a call of this run one prompt acted: it added its event, or was skipped
pub data PlaysOne (start : World) (run : ℕ) : Happening → List Event → List Event → Type 0 where
  skips : (r : ℕ) (s : Step) {past : List Event} → IsSkipped run past r s → PlaysOne start run (Other r s) past past
  acts : (r : ℕ) (s : Step) {past now : List Event} → r ≢ run → IsCareful r (own r past) s → IsActed start r s past now
      → PlaysOne start run (Other r s) past now
  delivers : (path : FilePath) (piece : List ℕ) {past : List Event}
      → PlaysOne start run (Deliver path piece) past (event.Deliver path piece ∷ past)
  fails : (m : After) {past : List Event} → PlaysOne start run (Fail m) past past
  crashes : (keeps : List Keep) (fill : ℕ) (is_made : Bool) (v : World) {past : List Event}
      → IsCrashBy keeps fill (has_acted_or_is run past) (world_after start past) (shown v)
      → PlaysOne start run (Crash keeps fill is_made) past (event.Crash v ∷ past)

-- a turn was played from its first prompt on, until these were left; a crash within the step of a run that is live is
-- left
pub data Plays (start : World) (run : ℕ) (left : List Happening) : List Happening → List Event → List Event
    → Type 0 where
  stops : {past : List Event} → Plays start run left left past past
  plays : (what : Happening) (turn : List Happening) {past mid now : List Event}
      → (is_within what turn ≡ true → (world_after start past).ended run ≡ true)
      → PlaysOne start run what past mid → Plays start run left turn mid now
      → Plays start run left (what ∷ turn) past now

-- a failed Create may leave a file of other bytes; another step was then not made
abbrev pub failing : Step → After → After
failing (step.Create p n b) (Torn c) = Torn c
failing s (Torn c) = Before
failing s Before = Before
failing s Made = Made

-- how the call ends after the prompts: what its run asked is answered, or it fails by a Fail, by the crash within it
-- that is left, or since the run has ended
pub data IsAnswered (start : World) (run : ℕ) (s : Step) (fail : Option After) (past : List Event) : List Happening
    → Answer → List Event → Type 0 where
  is_dead : (world_after start past).ended run ≡ true
      → IsAnswered start run s fail past [] Failed (event.Act run s Failed Before ∷ past)
  fails_by : (m : After) → IsLive run (world_after start past) → fail ≡ Some m
      → IsAnswered start run s fail past [] Failed (event.Act run s Failed (failing s m) ∷ past)
  answers : (a : Answer) → IsLive run (world_after start past) → fail ≡ None
      → IsAnsweredBy (world_after start past) run s a
      → IsAnswered start run s fail past [] a (event.Act run s a Made ∷ past)
  crashes_within : (keeps : List Keep) (fill : ℕ) (v : World) → IsLive run (world_after start past)
      → IsCrashBy keeps fill (has_acted_or_is run past) (made (world_after start past) run s) (shown v)
      → IsAnswered start run s fail past (Crash keeps fill true ∷ []) Failed
      (event.Act run s Failed Before ∷ (event.Crash v ∷ past))

-- a call that answers plays its whole turn, but for a crash within the step, and then ends; one that wants memory plays
-- a part and makes no step
abbrev pub IsPlayed : World → ℕ → Step → List Happening → List Event → Result Answer AllocError → List Event → Type 0
IsPlayed start run s turn past (Ok a) now =
    (left : List Happening) × (mid : List Event) × Plays start run left turn past mid
    × IsAnswered start run s (fail_of turn) mid left a now
IsPlayed start run s turn past (Err e) now = (left : List Happening) × Plays start run left turn past now
