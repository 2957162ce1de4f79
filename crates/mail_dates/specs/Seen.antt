-- What contracts see of a word.
use Rattle.std.specs.Prelude.{ℕ, Bool, List}

-- its first bytes, which tell all words that a date may have apart, and whether all of it is letters
pub record WordView : Type 0 where
  pub front : List ℕ
  pub letters : Bool
