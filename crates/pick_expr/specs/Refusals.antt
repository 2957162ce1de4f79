-- What the words of a command line are read as: an expression, or the first word that is refused.
use Rattle.std.specs.Prelude.{◌≡◌, ℕ, List, [], ◌∷◌, ◌++◌}
use Rattle.pick_expr.specs.declared.expr.Expr.{Expr}
use Rattle.pick_expr.specs.declared.fault.ExprFault.{ExprFault}
use Rattle.pick_expr.specs.declared.fault.ExprFault.TheVariants.{BadExpr, BadDate as BadDateAt, Memory}
use Rattle.pick_expr.specs.declared.lexeme.Lexeme.{Lexeme}
use Rattle.pick_expr.specs.declared.sign.Sign.{Sign}
use Rattle.pick_expr.specs.declared.sign.Sign.TheVariants.{Aside, Field, Word, BadPattern, BadDate}
use Rattle.pick_expr.specs.Grammar.{Tree, IsExpression}
use Rattle.pick_expr.specs.Signs.{Placed}

-- these words of an expression stand before the rest
abbrev pub StandBefore : List Lexeme → List Placed → List Placed → Type 0
StandBefore [] rest placed = placed ≡ rest
StandBefore (word ∷ words) rest placed = (place : ℕ) × (behind : List Placed)
    × (placed ≡ record { place = place; sign = Word word } ∷ behind) × StandBefore words rest behind

-- an expression begins with these words
pub record BeginExpression (words : List Lexeme) : Type 0 where
  pub behind : List Lexeme
  pub tree : Tree
  pub whole : IsExpression (words ++ behind) tree

-- the words are no expression
abbrev pub AreNone : List Lexeme → Type 0
AreNone words = (e : Tree) → IsExpression words e → ⊥

-- this word can't stand behind these
abbrev pub IsWrong : List Lexeme → ℕ → Sign → ExprFault → Type 0
IsWrong before place Aside fault = ⊥
IsWrong before place (Field name) fault = ⊥
IsWrong before place (Word word) fault = (BeginExpression (before ++ word ∷ []) → ⊥) × (fault ≡ BadExpr place)
IsWrong before place BadPattern fault = fault ≡ BadExpr place
IsWrong before place BadDate fault = fault ≡ BadDateAt place

-- behind these words the next is wrong, or the words end too early: then the place is the one behind all words
abbrev pub IsWrongBehind : ℕ → List Lexeme → List Placed → ExprFault → Type 0
IsWrongBehind end before [] fault = AreNone before × (fault ≡ BadExpr end)
IsWrongBehind end before (p ∷ behind) fault = IsWrong before p.place p.sign fault

-- the first word that is refused stands behind words with which an expression begins; the end is the place behind all
-- words
pub record IsRefusedFor (end : ℕ) (placed : List Placed) (fault : ExprFault) : Type 0 where
  pub before : List Lexeme
  pub rest : List Placed
  pub stand : StandBefore before rest placed
  pub begin : BeginExpression before
  pub wrong : IsWrongBehind end before rest fault

-- nothing is said of want of memory
abbrev pub IsRefused : ℕ → List Placed → ExprFault → Type 0
IsRefused end placed (BadExpr place) = IsRefusedFor end placed (BadExpr place)
IsRefused end placed (BadDateAt place) = IsRefusedFor end placed (BadDateAt place)
IsRefused end placed Memory = Unit {0}

-- all words are those of the expression
pub record IsReadAs (placed : List Placed) (expr : Expr) : Type 0 where
  pub stand : StandBefore expr.words [] placed
  pub tree : Tree
  pub whole : IsExpression expr.words tree
