-- What a plan says and how it ends, by what it was answered.
use Rattle.std.specs.Prelude.{◌≡◌, ◌++◌, ◌∷◌, [], List, ℕ, Option, Some, None}
use Rattle.folder_files.specs.declared.step.Answer.{Answer}
use Rattle.file_plans.specs.Plan.{Hand, Plan, Return, Ask, Try, Say, Hear, Recall, Note}
use Rattle.file_plans.specs.Runs.{Exit, Returned, Deed, Did, Said, Heard}

-- what a call was told: an answer to a step, or a piece of input
pub data Reply : Type 0 where
  Answered : (answer : Answer) → Reply
  Given : (piece : List ℕ) → Reply

-- the text of a plan, by what it is told
unfoldable pub text_by : {R : Type 0} → Plan R → Hand → List Reply → List ℕ
text_by (Return r) h told = []
text_by (Ask step next) h [] = []
text_by (Ask step next) h (Answered a ∷ told) = text_by (next a) h told
text_by (Ask step next) h (Given p ∷ told) = []
text_by (Try step next) h [] = []
text_by (Try step next) h (Answered a ∷ told) = text_by (next a) h told
text_by (Try step next) h (Given p ∷ told) = []
text_by (Say piece next) h told = piece ++ text_by next h told
text_by (Hear most next) h [] = []
text_by (Hear most next) h (Answered a ∷ told) = []
text_by (Hear most next) h (Given p ∷ told) = text_by (next p) h told
text_by (Recall next) h told = text_by (next h) h told
text_by (Note hand next) h told = text_by next hand told

-- what a plan returns, by what it is told, where it comes to its end
unfoldable pub ends_by : {R : Type 0} → Plan R → Hand → List Reply → Option R
ends_by (Return r) h told = Some r
ends_by (Ask step next) h [] = None
ends_by (Ask step next) h (Answered a ∷ told) = ends_by (next a) h told
ends_by (Ask step next) h (Given p ∷ told) = None
ends_by (Try step next) h [] = None
ends_by (Try step next) h (Answered a ∷ told) = ends_by (next a) h told
ends_by (Try step next) h (Given p ∷ told) = None
ends_by (Say piece next) h told = ends_by next h told
ends_by (Hear most next) h [] = None
ends_by (Hear most next) h (Answered a ∷ told) = None
ends_by (Hear most next) h (Given p ∷ told) = ends_by (next p) h told
ends_by (Recall next) h told = ends_by (next h) h told
ends_by (Note hand next) h told = ends_by next hand told

abbrev pub said_of : List Deed → List ℕ
said_of [] = []
said_of (Did s a ∷ ds) = said_of ds
said_of (Said piece ∷ ds) = piece ++ said_of ds
said_of (Heard piece ∷ ds) = said_of ds

abbrev pub replies_of : List Deed → List Reply
replies_of [] = []
replies_of (Did s a ∷ ds) = Answered a ∷ replies_of ds
replies_of (Said piece ∷ ds) = replies_of ds
replies_of (Heard piece ∷ ds) = Given piece ∷ replies_of ds

-- a prefix of the text was said, and the whole where the plan returned
pub record Says {R : Type 0} (text said : List ℕ) (exit : Exit R) : Type 0 where
  pub left : List ℕ
  pub prefix : said ++ left ≡ text
  pub whole : (r : R) → exit ≡ Returned r → left ≡ []
