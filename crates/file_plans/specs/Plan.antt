-- Plans: what a call asks of the files, says and hears, each chosen by the answers before it.
use Rattle.std.specs.Prelude.{ℕ, List, Option, None, Result, Ok, Err}
use Rattle.mh_profile.specs.declared.named_value.NamedValue.{NamedValue}
use Rattle.folder_files.specs.declared.step.Step.{Step}
use Rattle.folder_files.specs.declared.step.Answer.{Answer}

-- what a run keeps beside the files: the number of its next temporary name, and the context's
-- entries as it last read or wrote them
pub record Hand : Type 0 where
  pub next : ℕ
  pub context : Option (List NamedValue)

-- a run's hand at its start
abbrev pub fresh : Hand
fresh = record { next = 0; context = None }

pub data Plan (R : Type 0) : Type 0 where
  -- the call returns
  Return : (r : R) → Plan R
  -- a step; where it fails, the call ends
  Ask : (step : Step) → (next : Answer → Plan R) → Plan R
  -- a step after which the call goes on, also where it failed
  Try : (step : Step) → (next : Answer → Plan R) → Plan R
  -- a piece of output
  Say : (piece : List ℕ) → (next : Plan R) → Plan R
  -- a piece of input, of at most so many bytes
  Hear : (most : ℕ) → (next : List ℕ → Plan R) → Plan R
  -- the hand as it is
  Recall : (next : Hand → Plan R) → Plan R
  -- the hand is this from here on
  Note : (hand : Hand) → (next : Plan R) → Plan R

-- this plan, and the next one by what it returns
unfoldable pub bind : {A B : Type 0} → Plan A → (A → Plan B) → Plan B
bind (Return r) k = k r
bind (Ask step next) k = Ask step (λ a. bind (next a) k)
bind (Try step next) k = Try step (λ a. bind (next a) k)
bind (Say piece next) k = Say piece (bind next k)
bind (Hear most next) k = Hear most (λ p. bind (next p) k)
bind (Recall next) k = Recall (λ h. bind (next h) k)
bind (Note hand next) k = Note hand (bind next k)

abbrev pub after : {A B E : Type 0} → (A → Plan (Result B E)) → Result A E → Plan (Result B E)
after k (Ok a) = k a
after k (Err e) = Return (Err e)

-- this plan, and the next one where it returns Ok
infixl 10 ◌>>=◌
unfoldable pub ◌>>=◌ : {A B E : Type 0} → Plan (Result A E) → (A → Plan (Result B E)) → Plan (Result B E)
p >>= k = bind p (after k)

abbrev pub converted : {A E F : Type 0} → (E → F) → Result A E → Result A F
converted from (Ok a) = Ok a
converted from (Err e) = Err (from e)

-- the plan with its errors as another layer has them
unfoldable pub lifted : {A E F : Type 0} → (E → F) → Plan (Result A E) → Plan (Result A F)
lifted from p = bind p (λ r. Return (converted from r))

-- one step
unfoldable pub ask : {E : Type 0} → Step → Plan (Result Answer E)
ask step = Ask step (λ a. Return (Ok a))

-- a step after which the call goes on, also where it failed
unfoldable pub attempt : {E : Type 0} → Step → Plan (Result Answer E)
attempt step = Try step (λ a. Return (Ok a))

-- one piece of output
unfoldable pub say : {E : Type 0} → List ℕ → Plan (Result Unit E)
say piece = Say piece (Return (Ok tt))

-- one piece of input
unfoldable pub hear : {E : Type 0} → ℕ → Plan (Result (List ℕ) E)
hear most = Hear most (λ piece. Return (Ok piece))
