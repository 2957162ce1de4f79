-- What a run of a plan may do, and how it ends.
use Rattle.std.specs.Prelude.{◌≡◌, ◌≢◌, ◌⊎◌, ◌≤◌, ◌++◌, ◌∷◌, [], List, ℕ, Result, Ok, Err, length}
use Rattle.folder_files.specs.declared.step.Step.{Step}
use Rattle.folder_files.specs.declared.step.Answer.{Answer}
use Rattle.folder_files.specs.declared.step.Answer.TheVariants.{Failed}
use Rattle.folder_files.specs.Rows.{IsAnswerOf}
use Rattle.file_plans.specs.Plan.{Hand, Plan, Return, Ask, Try, Say, Hear, Recall, Note}

-- how a call ends: as its plan says, by a fault, or for want of memory
pub data Exit (R : Type 0) : Type 0 where
  Returned : (r : R) → Exit R
  FilesFailed : Exit R
  InFailed : Exit R
  OutFailed : Exit R
  NoMemory : Exit R

-- what an error of a layer stands for
pub data Cause : Type 0 where
  OfPlan : Cause
  OfFiles : Cause
  OfIn : Cause
  OfOut : Cause
  OfMemory : Cause

abbrev pub exit_by : {T E : Type 0} → E → Cause → Exit (Result T E)
exit_by e OfPlan = Returned (Err e)
exit_by e OfFiles = FilesFailed
exit_by e OfIn = InFailed
exit_by e OfOut = OutFailed
exit_by e OfMemory = NoMemory

abbrev pub exit_of : {T E : Type 0} → (E → Cause) → Result T E → Exit (Result T E)
exit_of cause (Ok t) = Returned (Ok t)
exit_of cause (Err e) = exit_by e (cause e)

-- one thing that a call did
pub data Deed : Type 0 where
  Did : (step : Step) → (answer : Answer) → Deed
  Said : (piece : List ℕ) → Deed
  Heard : (piece : List ℕ) → Deed

-- these deeds are a run of the plan, from this hand to that, with this exit. Memory may be wanting at
-- any point; a step that fails ends the plan, where the plan doesn't go on after it; and of a piece of
-- output that fails a part was put.
unfoldable pub Runs : {R : Type 0} → Plan R → Hand → List Deed → Hand → Exit R → Type 0
Runs (Return r) h [] k x = (k ≡ h) × ((x ≡ Returned r) ⊎ (x ≡ NoMemory))
Runs (Return r) h (d ∷ ds) k x = ⊥
Runs (Ask step next) h [] k x = (k ≡ h) × (x ≡ NoMemory)
Runs (Ask step next) h (Did s a ∷ ds) k x =
    (s ≡ step) × IsAnswerOf s a
    × (((a ≡ Failed) × (ds ≡ []) × (k ≡ h) × (x ≡ FilesFailed)) ⊎ ((a ≢ Failed) × Runs (next a) h ds k x))
Runs (Ask step next) h (Said piece ∷ ds) k x = ⊥
Runs (Ask step next) h (Heard piece ∷ ds) k x = ⊥
Runs (Try step next) h [] k x = (k ≡ h) × (x ≡ NoMemory)
Runs (Try step next) h (Did s a ∷ ds) k x = (s ≡ step) × IsAnswerOf s a × Runs (next a) h ds k x
Runs (Try step next) h (Said piece ∷ ds) k x = ⊥
Runs (Try step next) h (Heard piece ∷ ds) k x = ⊥
Runs (Say piece next) h [] k x = (k ≡ h) × (x ≡ NoMemory)
Runs (Say piece next) h (Did s a ∷ ds) k x = ⊥
Runs (Say piece next) h (Said part ∷ ds) k x =
    (((rest : List ℕ) × (part ++ rest ≡ piece)) × (ds ≡ []) × (k ≡ h) × (x ≡ OutFailed))
    ⊎ ((part ≡ piece) × Runs next h ds k x)
Runs (Say piece next) h (Heard part ∷ ds) k x = ⊥
Runs (Hear most next) h [] k x = (k ≡ h) × ((x ≡ InFailed) ⊎ (x ≡ NoMemory))
Runs (Hear most next) h (Did s a ∷ ds) k x = ⊥
Runs (Hear most next) h (Said part ∷ ds) k x = ⊥
Runs (Hear most next) h (Heard piece ∷ ds) k x = (length piece ≤ most) × Runs (next piece) h ds k x
Runs (Recall next) h ds k x = Runs (next h) h ds k x
Runs (Note hand next) h ds k x = ((ds ≡ []) × (k ≡ h) × (x ≡ NoMemory)) ⊎ Runs next hand ds k x

-- a step of these was answered Failed
abbrev pub AnyFailed : List Deed → Type 0
AnyFailed [] = ⊥
AnyFailed (Did s a ∷ ds) = (a ≡ Failed) ⊎ AnyFailed ds
AnyFailed (Said piece ∷ ds) = AnyFailed ds
AnyFailed (Heard piece ∷ ds) = AnyFailed ds
