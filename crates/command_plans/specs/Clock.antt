-- When a command is called.
use Rattle.std.specs.Prelude.{ℤ}

-- a moment, in seconds from 1970-01-01 00:00:00 UTC, and by how many minutes the caller's clock is ahead of UTC
pub record ClockParts : Type 0 where
  pub moment : ℤ
  pub offset : ℤ
