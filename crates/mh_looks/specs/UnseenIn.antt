-- Which messages of a folder are unseen.
use Rattle.std.specs.Prelude.{ℕ, List}
use Rattle.mh_sequences.specs.Sequences.{Marked}

-- a folder's sequences, and the names of those whose messages are unseen
pub record UnseenIn : Type 0 where
  pub sequences : Marked
  pub names : List (List ℕ)
