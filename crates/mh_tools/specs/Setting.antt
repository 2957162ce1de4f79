-- What a run is given beside its words.
use Rattle.std.specs.Prelude.{ℕ, ℤ, List}

-- the run's number, the moment in seconds, the offset in minutes, and the user's name
pub record SettingParts : Type 0 where
  pub run : ℕ
  pub moment : ℤ
  pub offset : ℤ
  pub user : List ℕ
