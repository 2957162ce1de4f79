-- Code that follows a plan.
use Rattle.std.specs.Prelude.{◌≡◌, ◌≤◌, ◌++◌, ◌∷◌, [], List, ℕ, Option, Some, None, Result}
use Rattle.mh_base.specs.Counts.{Rose}
use Rattle.mh_base.specs.Streams.{SourceState, SinkState, Adds}
use Rattle.folder_files.specs.Story.{FilesState, Moment, Mine, Theirs, GrowsBy}
use Rattle.file_plans.specs.Plan.{Hand, Plan}
use Rattle.file_plans.specs.Runs.{Exit, FilesFailed, InFailed, OutFailed, Cause, exit_of, Deed, Did, Said, Heard, Runs, AnyFailed}

-- what happened at the files, the output and the input, in order
pub data Turn : Type 0 where
  Filed : (moment : Moment) → Turn
  Spoke : (piece : List ℕ) → Turn
  Took : (piece : List ℕ) → Turn

abbrev pub filed_in : List Turn → List Moment
filed_in [] = []
filed_in (Filed m ∷ ts) = m ∷ filed_in ts
filed_in (Spoke piece ∷ ts) = filed_in ts
filed_in (Took piece ∷ ts) = filed_in ts

abbrev pub said_in : List Turn → List ℕ
said_in [] = []
said_in (Filed m ∷ ts) = said_in ts
said_in (Spoke piece ∷ ts) = piece ++ said_in ts
said_in (Took piece ∷ ts) = said_in ts

abbrev pub heard_in : List Turn → List (List ℕ)
heard_in [] = []
heard_in (Filed m ∷ ts) = heard_in ts
heard_in (Spoke piece ∷ ts) = heard_in ts
heard_in (Took piece ∷ ts) = piece ∷ heard_in ts

abbrev pub deeds_in : List Turn → List Deed
deeds_in [] = []
deeds_in (Filed (Mine s a f) ∷ ts) = Did s a ∷ deeds_in ts
deeds_in (Filed (Theirs e) ∷ ts) = deeds_in ts
deeds_in (Spoke piece ∷ ts) = Said piece ∷ deeds_in ts
deeds_in (Took piece ∷ ts) = Heard piece ∷ deeds_in ts

-- these pieces were taken from the front, one after another; an empty one only where nothing was left
abbrev pub TakesAll : List ℕ → List ℕ → List (List ℕ) → Type 0
TakesAll old new [] = new ≡ old
TakesAll old new (p ∷ ps) = (rest : List ℕ) × (old ≡ p ++ rest) × (p ≡ [] → old ≡ []) × TakesAll rest new ps

-- the same, where an input tells what it has left
abbrev pub Hears : Option (List ℕ) → Option (List ℕ) → List (List ℕ) → Type 0
Hears None None pieces = Unit {0}
Hears (Some old) (Some new) pieces = TakesAll old new pieces
Hears None (Some new) pieces = ⊥
Hears (Some old) None pieces = ⊥

-- a run's hand, and what the files, the input and the output tell
pub record State : Type 0 where
  pub hand : Hand
  pub files : FilesState
  pub input : SourceState
  pub out : SinkState

-- what a call of this run did between two states, by this plan and with this exit
pub record Went {R : Type 0} (run : ℕ) (plan : Plan R) (x y : State) (exit : Exit R) : Type 0 where
  pub log : List Turn
  pub grows : GrowsBy run x.files.story y.files.story (filed_in log)
  pub adds : Adds x.out.told y.out.told (said_in log)
  pub hears : Hears x.input.left y.input.left (heard_in log)
  pub runs : Runs plan x.hand (deeds_in log) y.hand exit
  pub files_cause : exit ≡ FilesFailed → Rose x.files.faults y.files.faults
  pub failed_cause : AnyFailed (deeds_in log) → Rose x.files.faults y.files.faults
  pub in_cause : exit ≡ InFailed → Rose x.input.faults y.input.faults
  pub out_cause : exit ≡ OutFailed → Rose x.out.faults y.out.faults
  pub files_later : x.files.faults ≤ y.files.faults
  pub in_later : x.input.faults ≤ y.input.faults
  pub out_later : x.out.faults ≤ y.out.faults

-- the call followed its plan: its result is the plan's exit
pub record Follows {T E : Type 0} (run : ℕ) (cause : E → Cause) (plan : Plan (Result T E)) (x y : State)
    (result : Result T E) : Type 0 where
  pub went : Went run plan x y (exit_of cause result)

-- an input and an output that nobody touches: a byte stays in the one, and none goes to the other
abbrev pub quiet_in : SourceState
quiet_in = record { left = Some (0 ∷ []); faults = 0 }

abbrev pub quiet : SinkState
quiet = record { told = Some []; faults = 0 }

abbrev pub all : Hand → FilesState → SourceState → SinkState → State
all hand files input out = record { hand = hand; files = files; input = input; out = out }

-- of a call that hears nothing
abbrev pub by_out : Hand → FilesState → SinkState → State
by_out hand files out = all hand files quiet_in out

-- of a call on files alone
abbrev pub by_hand : Hand → FilesState → State
by_hand hand files = all hand files quiet_in quiet
