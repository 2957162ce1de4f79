-- What may be told of messages that are taken in.
use Rattle.std.specs.Prelude.{◌≡◌, ℕ, List, [], ◌∷◌}
use Rattle.folder_files.specs.Deeds.{Deed}
use Rattle.folder_files.specs.declared.place.Place.{Place}
use Rattle.message_puts.specs.Stored.{HasStoredAt}
use Rattle.message_lines.specs.MessageText.{line_of, Writing}

-- the piece is the line of a message, and own steps put that message at the line's number and made its folder safe
pub record IsLineOfStored {K : Type 0} (line_by : K → Writing) (run : ℕ) (p : Place) (own : List Deed)
    (piece : List ℕ) : Type 0 where
  pub number : ℕ
  pub message : List ℕ
  pub kind : K
  pub line : piece ≡ line_of (line_by kind) number message
  pub stored : HasStoredAt run p number message own

-- own steps so stored these messages, one at each of these numbers
abbrev pub AreStoredAt : ℕ → Place → List ℕ → List (List ℕ) → List Deed → Type 0
AreStoredAt run p [] [] own = Unit {0}
AreStoredAt run p [] (message ∷ messages) own = ⊥
AreStoredAt run p (number ∷ numbers) [] own = ⊥
AreStoredAt run p (number ∷ numbers) (message ∷ messages) own =
    HasStoredAt run p number message own × AreStoredAt run p numbers messages own
