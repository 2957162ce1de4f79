-- What `scan` is to do, as plans see it.
use Rattle.std.specs.Prelude.{ℕ, Bool, List}
use Rattle.message_lines.specs.MessageText.{Writing}
use Rattle.message_lines.specs.declared.standing.Standing.{Standing}

-- the folder, the words that choose messages, whether the last comes first, the sequences whose messages are unseen,
-- the prefix of negation, and what is written of a message that stands so
pub record ScanJob : Type 0 where
  pub folder : List ℕ
  pub specs : List (List ℕ)
  pub reverse : Bool
  pub unseen : List (List ℕ)
  pub negation : List ℕ
  pub spoken : Standing → Writing
