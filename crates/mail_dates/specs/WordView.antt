-- What is kept of a word.
use Rattle.std.specs.Prelude.{◌≡◌, ℕ, ◌&&◌, List, [], ◌∷◌, ◌++◌, take, Option, Some, None}
use Rattle.std.specs.List.{list_all}
use Rattle.mail_dates.specs.Names.{is_letter}
use Rattle.mail_dates.specs.Seen.{WordView}

-- what is kept of this word
abbrev pub view_of : List ℕ → WordView
view_of word = record { front = take 13 word; letters = list_all is_letter word }

-- the view of a word with one byte more
abbrev pub pushed : WordView → ℕ → WordView
pushed view b = record { front = take 13 (view.front ++ b ∷ []); letters = view.letters && is_letter b }

-- the first of these words was taken, or there is none
abbrev pub TakesWord : List (List ℕ) → Option WordView → List (List ℕ) → Type 0
TakesWord old None new = (old ≡ []) × (new ≡ [])
TakesWord old (Some view) new = (word : List ℕ) × (old ≡ word ∷ new) × (view ≡ view_of word)
