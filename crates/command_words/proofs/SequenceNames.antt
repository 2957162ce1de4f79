-- The names of sequences, one word after another.
use Rattle.std.proofs.Common.{◌≡◌, ◌++◌, ℕ, List, drop}
use Rattle.command_words.specs.SequenceNames.{wrong_names}

-- these names were read, none before them is wrong, and the words from this index on are left
pub record AreRead (words : List (List ℕ)) (i : ℕ) (names : List (List ℕ)) : Type 0 where
  pub named : names ++ drop i words ≡ words
  pub right : wrong_names (drop i words) ≡ wrong_names words
