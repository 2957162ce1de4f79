-- How far the words of an expression were read.
use Rattle.std.specs.Prelude.{◌≡◌, ℕ, Bool, true, false, List, [], ◌∷◌, ◌++◌, Option, Some, None, if◌then◌else◌}
use Rattle.pick_expr.specs.declared.expr.Progress.{Progress}
use Rattle.pick_expr.specs.declared.fault.ExprFault.{ExprFault}
use Rattle.pick_expr.specs.declared.fault.ExprFault.TheVariants.{BadExpr, BadDate as BadDateAt, Memory}
use Rattle.pick_expr.specs.declared.lexeme.Lexeme.{Lexeme}
use Rattle.pick_expr.specs.declared.sign.Sign.{Sign}
use Rattle.pick_expr.specs.declared.sign.Sign.TheVariants.{Aside, Field, Word, BadPattern, BadDate}
use Rattle.pick_expr.specs.Signs.{Placed}
use Rattle.pick_expr.specs.Spots.{spot_of}
use Rattle.pick_expr.specs.Steps.{Spot, step, may_end}

-- what is wrong at the end, where there were words of an expression or none; this place is behind all words
abbrev pub ended : ℕ → Spot → Bool → Option ExprFault
ended behind s false = None
ended behind s true = if may_end s then None else Some (BadExpr behind)

abbrev pub passed : ℕ → Option Spot → (Spot → Option ExprFault) → Option ExprFault
passed place None rest = Some (BadExpr place)
passed place (Some s) rest = rest s

abbrev pub passed_sign : ℕ → Sign → Spot → (Spot → Option ExprFault) → Option ExprFault
passed_sign place Aside s rest = rest s
passed_sign place (Field name) s rest = rest s
passed_sign place (Word word) s rest = passed place (step word s) rest
passed_sign place BadPattern s rest = Some (BadExpr place)
passed_sign place BadDate s rest = Some (BadDateAt place)

-- the first fault of these words, if there is one; this place is behind all words
abbrev pub fault_in : ℕ → List Placed → Spot → Bool → Option ExprFault
fault_in behind [] s begun = ended behind s begun
fault_in behind (p ∷ ps) s begun = passed_sign p.place p.sign s (λ next. fault_in behind ps next true)

abbrev pub word_of : Sign → List Lexeme
word_of Aside = []
word_of (Field name) = []
word_of (Word word) = word ∷ []
word_of BadPattern = []
word_of BadDate = []

abbrev pub words_in : List Placed → List Lexeme
words_in [] = []
words_in (p ∷ ps) = word_of p.sign ++ words_in ps

-- the word was passed
pub record IsPassed (place : ℕ) (word : Lexeme) (old new : Progress) : Type 0 where
  pub spot : step word (spot_of old.reader) ≡ Some (spot_of new.reader)
  pub words : new.words ≡ old.words ++ word ∷ []
  pub field : new.field ≡ old.field
  pub is_begun : new.is_begun ≡ true

-- what is left to read comes to the same as before
pub record Continues (old new : Progress) (signs rest : List Placed) : Type 0 where
  pub fault : (behind : ℕ) → fault_in behind signs (spot_of old.reader) old.is_begun ≡ fault_in behind rest (spot_of new.reader) new.is_begun
  pub words : old.words ++ words_in signs ≡ new.words ++ words_in rest

abbrev pub IsFaultOf : Option ExprFault → ExprFault → Type 0
IsFaultOf there (BadExpr place) = there ≡ Some (BadExpr place)
IsFaultOf there (BadDateAt place) = there ≡ Some (BadDateAt place)
IsFaultOf there Memory = Unit {0}
