-- What a plan says and returns where its steps are answered by one mailbox, or by anything else that determines
-- answers.
use Rattle.std.specs.Prelude.{◌≡◌, ◌≢◌, ◌≤◌, ◌++◌, ◌∷◌, [], List, ℕ, length}
use Rattle.folder_files.specs.declared.step.Step.{Step}
use Rattle.folder_files.specs.declared.step.Answer.{Answer}
use Rattle.folder_files.specs.declared.step.Answer.TheVariants.{Failed}
use Rattle.folder_files.specs.Rows.{IsAnswerOf}
use Rattle.file_plans.specs.Plan.{Hand, Plan, Return, Ask, Try, Say, Hear, Recall, Note}
use Rattle.file_plans.specs.Runs.{Exit, Returned, OutFailed, Deed, Did, Said, Heard}

-- which answers a step has in a state, and the state after it
pub record Table (S : Type 0) : Type 1 where
  pub fits : S → Step → Answer → Type 0
  pub after : S → Step → Answer → S

-- whatever answers fit, the plan says pieces of this text in order, none of them empty, and what it returns meets Q,
-- with what is left of the text
unfoldable pub Gives : {S R : Type 0} → Table S → S → Hand → List ℕ → Plan R → (S → Hand → List ℕ → R → Type 0) → Type 0
Gives t s h text (Return r) Q = Q s h text r
Gives t s h text (Ask step next) Q =
    (a : Answer) → IsAnswerOf step a → a ≢ Failed → t.fits s step a → Gives t (t.after s step a) h text (next a) Q
Gives t s h text (Try step next) Q =
    (a : Answer) → IsAnswerOf step a → (a ≢ Failed → t.fits s step a) → Gives t (t.after s step a) h text (next a) Q
Gives t s h text (Say piece next) Q =
    (piece ≢ []) × ((rest : List ℕ) × (text ≡ piece ++ rest) × Gives t s h rest next Q)
Gives t s h text (Hear most next) Q = (piece : List ℕ) → length piece ≤ most → Gives t s h text (next piece) Q
Gives t s h text (Recall next) Q = Gives t s h text (next h) Q
Gives t s h text (Note hand next) Q = Gives t s hand text next Q

-- each step that did not fail has a fitting answer, one after another, up to this state
abbrev pub FitAll : {S : Type 0} → Table S → S → List Deed → S → Type 0
FitAll t s [] z = z ≡ s
FitAll t s (Did step a ∷ ds) z = (a ≢ Failed → t.fits s step a) × FitAll t (t.after s step a) ds z
FitAll t s (Said piece ∷ ds) z = FitAll t s ds z
FitAll t s (Heard piece ∷ ds) z = FitAll t s ds z

-- a prefix of the text was said, and Q holds of what was returned and of what is left; the output fails only where
-- there is a text
pub record Gave {S R : Type 0} (z : S) (k : Hand) (text said : List ℕ) (exit : Exit R)
    (Q : S → Hand → List ℕ → R → Type 0) : Type 0 where
  pub left : List ℕ
  pub prefix : said ++ left ≡ text
  pub returned : (r : R) → exit ≡ Returned r → Q z k left r
  pub cut : exit ≡ OutFailed → text ≢ []
