-- Values that stand on one line.
use Rattle.std.specs.Prelude.{◌≡◌, ℕ, ◌==◌, Bool, not, List}
use Rattle.mail_headers.specs.Unfolding.{unfolded}

-- a byte that is no line feed
abbrev pub is_no_feed : ℕ → Bool
is_no_feed b = not (b == 10)

-- unfolding leaves this value as it is: it holds no line end, and no blank at its ends
pub record IsUnfolded (value : List ℕ) : Type 0 where
  pub same : unfolded value ≡ value
