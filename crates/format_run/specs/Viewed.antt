-- What a line is about.
use Rattle.std.specs.Prelude.{ℕ, Bool, List, ℤ}

-- a message of this number in its folder, whether it is the current one and whether it is unseen; and who looks at it
-- when, in seconds from 1970-01-01 00:00:00 UTC
pub record Viewed : Type 0 where
  pub number : ℕ
  pub current : Bool
  pub unseen : Bool
  pub message : List ℕ
  pub moment : ℤ
  pub user : List ℕ
