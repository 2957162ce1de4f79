-- Dates of messages, one behind the other.
use Rattle.std.specs.Prelude.{◌≡◌, ◌<◌, ◌+◌, ℕ, List, [], ◌∷◌, length, take, get_or, ℤ, Option, None, Some}

-- the second where there is one, else the first
abbrev pub later : Option ℤ → Option ℤ → Option ℤ
later d None = d
later d (Some c) = Some c

-- the last date that there is
abbrev pub last_date : List (Option ℤ) → Option ℤ
last_date [] = None
last_date (d ∷ ds) = later d (last_date ds)

-- each message has the last date that there is up to it
pub record AreFilled (dates keys : List (Option ℤ)) : Type 0 where
  pub count : length keys ≡ length dates
  pub each : (k : ℕ) → k < length dates → get_or keys k None ≡ last_date (take (k + 1) dates)
