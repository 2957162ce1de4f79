-- The expressions that words write.
use Rattle.std.specs.Prelude.{ℕ, suc, List, [], ◌∷◌}
use Rattle.pick_expr.specs.declared.one_test.Test.{Test}
use Rattle.pick_expr.specs.declared.lexeme.Lexeme.{Lexeme}
use Rattle.pick_expr.specs.declared.lexeme.Lexeme.TheVariants.{And, Or, Not, Open, Close, Test as TestWord}

-- an expression: one that holds of every message, a test, or expressions joined
pub data Tree : Type 0 where
  Every : Tree
  Leaf : Test → Tree
  Negation : Tree → Tree
  Both : Tree → Tree → Tree
  Either : Tree → Tree → Tree

-- The words begin with an expression of a kind, and the rest stands behind it; in all of it at most so many `-not` and
-- `-lbrace` are open at once.
mutual
  -- a test, `-not` and another such, or any expression between braces
  pub data IsOperand : ℕ → List Lexeme → List Lexeme → Tree → Type 0 where
    test : {room : ℕ} {t : Test} {rest : List Lexeme} → IsOperand room (TestWord t ∷ rest) rest (Leaf t)
    negation : {room : ℕ} {words rest : List Lexeme} {e : Tree} → IsOperand room words rest e
        → IsOperand (suc room) (Not ∷ words) rest (Negation e)
    group : {room : ℕ} {words rest : List Lexeme} {e : Tree} → IsEither room words (Close ∷ rest) e
        → IsOperand (suc room) (Open ∷ words) rest e

  -- operands side by side, or with `-and` between them
  pub data IsBoth : ℕ → List Lexeme → List Lexeme → Tree → Type 0 where
    last : {room : ℕ} {words rest : List Lexeme} {e : Tree} → IsOperand room words rest e → IsBoth room words rest e
    joined : {room : ℕ} {words behind rest : List Lexeme} {e f : Tree} → IsOperand room words (And ∷ behind) e
        → IsBoth room behind rest f → IsBoth room words rest (Both e f)
    beside : {room : ℕ} {words behind rest : List Lexeme} {e f : Tree} → IsOperand room words behind e
        → IsBoth room behind rest f → IsBoth room words rest (Both e f)

  -- such with `-or` between them
  pub data IsEither : ℕ → List Lexeme → List Lexeme → Tree → Type 0 where
    only : {room : ℕ} {words rest : List Lexeme} {e : Tree} → IsBoth room words rest e → IsEither room words rest e
    choice : {room : ℕ} {words behind rest : List Lexeme} {e f : Tree} → IsBoth room words (Or ∷ behind) e
        → IsEither room behind rest f → IsEither room words rest (Either e f)

-- the words are this expression: without any word it holds of every message
pub data IsExpression : List Lexeme → Tree → Type 0 where
  no_words : IsExpression [] Every
  some_words : {words : List Lexeme} {e : Tree} → IsEither 64 words [] e → IsExpression words e
