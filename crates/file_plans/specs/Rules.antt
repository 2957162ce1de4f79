-- What holds at each touch of a plan, whatever the answers.
use Rattle.std.specs.Prelude.{◌≡◌, ◌≢◌, ◌≤◌, ◌++◌, ◌∷◌, [], List, ℕ, Result, Ok, Err, length}
use Rattle.folder_files.specs.declared.step.Step.{Step}
use Rattle.folder_files.specs.declared.step.Answer.{Answer}
use Rattle.folder_files.specs.declared.step.Answer.TheVariants.{Failed}
use Rattle.folder_files.specs.Rows.{IsAnswerOf}
use Rattle.file_plans.specs.Plan.{Hand, Plan, Return, Ask, Try, Say, Hear, Recall, Note}
use Rattle.file_plans.specs.Runs.{Exit, Returned, FilesFailed, InFailed, OutFailed, NoMemory, Deed, Did, Said, Heard}

-- what may be asked and said after these deeds, whether the input may be read, and what holds of the deeds and the hand
-- at each point
pub record Rules : Type 1 where
  pub may_ask : List Deed → Step → Type 0
  pub may_say : List Deed → List ℕ → Type 0
  pub may_hear : List Deed → Type 0
  pub holds : List Deed → Hand → Type 0

-- the plan keeps the rules at each touch, whatever the answers, and where it returns this holds
unfoldable pub Keeps : {R : Type 0} → Rules → List Deed → Hand → Plan R → (List Deed → Hand → R → Type 0) → Type 0
Keeps u past h (Return r) Q = u.holds past h × Q past h r
Keeps u past h (Ask step next) Q =
    u.holds past h × u.may_ask past step × u.holds (past ++ Did step Failed ∷ []) h
    × ((a : Answer) → IsAnswerOf step a → a ≢ Failed → Keeps u (past ++ Did step a ∷ []) h (next a) Q)
Keeps u past h (Try step next) Q =
    u.holds past h × u.may_ask past step
    × ((a : Answer) → IsAnswerOf step a → Keeps u (past ++ Did step a ∷ []) h (next a) Q)
Keeps u past h (Say piece next) Q =
    u.holds past h × u.may_say past piece
    × ((part rest : List ℕ) → part ++ rest ≡ piece → u.holds (past ++ Said part ∷ []) h)
    × Keeps u (past ++ Said piece ∷ []) h next Q
Keeps u past h (Hear most next) Q =
    u.holds past h × u.may_hear past
    × ((piece : List ℕ) → length piece ≤ most → Keeps u (past ++ Heard piece ∷ []) h (next piece) Q)
Keeps u past h (Recall next) Q = Keeps u past h (next h) Q
Keeps u past h (Note hand next) Q = u.holds past h × Keeps u past hand next Q

-- one deed keeps the rules
abbrev pub IsKept : Rules → List Deed → Deed → Type 0
IsKept u past (Did step a) = u.may_ask past step
IsKept u past (Said part) = (rest : List ℕ) × u.may_say past (part ++ rest)
IsKept u past (Heard piece) = u.may_hear past

-- each deed does, after those before it
abbrev pub AreKept : Rules → List Deed → List Deed → Type 0
AreKept u past [] = Unit {0}
AreKept u past (d ∷ ds) = IsKept u past d × AreKept u (past ++ d ∷ []) ds

-- what holds where a plan returned; and the input fails only where it may be read
abbrev pub IsKeptExit : {R : Type 0} → Rules → (List Deed → Hand → R → Type 0) → List Deed → Hand → Exit R → Type 0
IsKeptExit u Q past h (Returned r) = Q past h r
IsKeptExit u Q past h FilesFailed = Unit {0}
IsKeptExit u Q past h InFailed = u.may_hear past
IsKeptExit u Q past h OutFailed = Unit {0}
IsKeptExit u Q past h NoMemory = Unit {0}

-- what a run of the plan keeps, at every exit
pub record Kept {R : Type 0} (u : Rules) (past ds : List Deed) (h : Hand) (exit : Exit R)
    (Q : List Deed → Hand → R → Type 0) : Type 0 where
  pub kept : AreKept u past ds
  pub holds : u.holds (past ++ ds) h
  pub gave : IsKeptExit u Q (past ++ ds) h exit

-- what holds where a call is Ok
abbrev pub IfOkay : {A E : Type 0} → (List Deed → Hand → A → Type 0) → List Deed → Hand → Result A E → Type 0
IfOkay P past h (Ok a) = P past h a
IfOkay P past h (Err e) = Unit {0}
