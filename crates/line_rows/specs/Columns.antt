-- How many columns characters take, and lines that have a limited number of them.
use Rattle.std.specs.Prelude.{◌≡◌, ◌≤◌, ℕ, ◌-◌, Bool, false, not, nat_le, List, [], ◌∷◌, ◌++◌, length, take, sum_by, unwrap_or, if◌then◌else◌}
use Rattle.unicode_width.specs.Width.{char_width}

-- a character's columns (Unicode Standard Annex 11); a control character has one
abbrev pub columns_in : ℕ → ℕ
columns_in c = unwrap_or (char_width false c) 1

abbrev pub columns_of : List ℕ → ℕ
columns_of text = sum_by columns_in text

-- the longest front of a text that takes at most so many columns
unfoldable pub fit : ℕ → List ℕ → List ℕ
fit room [] = []
fit room (c ∷ text) = if nat_le (columns_in c) room then c ∷ fit (room - columns_in c) text else []

-- a line so far: what it holds, in how many columns at most, and whether something came that had no room
pub record Kept : Type 0 where
  pub characters : List ℕ
  pub width : ℕ
  pub closed : Bool

-- the columns that are still free
abbrev pub free : Kept → ℕ
free line = if line.closed then 0 else line.width - columns_of line.characters

-- the line with the longest front of a text that fits; where that isn't all of it, the line is closed, and takes
-- nothing more
unfoldable pub with_more : Kept → List ℕ → Kept
with_more line more =
    if line.closed then line
    else record {
      characters = line.characters ++ fit (free line) more;
      width = line.width;
      closed = not (nat_le (columns_of more) (free line));
    }

-- a line of this width, which holds nothing yet
abbrev pub empty_line : ℕ → Kept
empty_line width = record { characters = []; width = width; closed = false }

-- this is the longest front of a text that takes at most so many columns: no longer one does
pub record IsLongestFit (room : ℕ) (text front : List ℕ) : Type 0 where
  pub begins : front ≡ take (length front) text
  pub fits : columns_of front ≤ room
  pub longest : (n : ℕ) → n ≤ length text → columns_of (take n text) ≤ room → n ≤ length front
