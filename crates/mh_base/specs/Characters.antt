-- Classes of characters and bytes, and the words that stand between some of them.
use Rattle.std.specs.Prelude.{ℕ, ◌==◌, ◌&&◌, ◌||◌, nat_le, not, Bool, true, filter, length, List, [], ◌∷◌, if◌then◌else◌}
use Rattle.std.specs.List.{slice_split}

-- an ASCII digit
abbrev pub is_digit : ℕ → Bool
is_digit c = nat_le 48 c && nat_le c 57

-- a space or a tab
abbrev pub is_blank : ℕ → Bool
is_blank c = c == 32 || c == 9

abbrev pub is_some_text : List ℕ → Bool
is_some_text text = not (length text == 0)

-- what stands between blanks
abbrev pub words_in : List ℕ → List (List ℕ)
words_in text = filter is_some_text (slice_split is_blank text)

-- a word ends before these characters
abbrev pub ends_word : (ℕ → Bool) → List ℕ → Bool
ends_word separates [] = true
ends_word separates (c ∷ rest) = separates c

-- one character more at the front of the first word
abbrev pub longer : ℕ → List (List ℕ) → List (List ℕ)
longer c [] = (c ∷ []) ∷ []
longer c (word ∷ words) = (c ∷ word) ∷ words

-- what stands between separators
unfoldable pub words : (ℕ → Bool) → List ℕ → List (List ℕ)
words separates [] = []
words separates (c ∷ rest) =
    if separates c then words separates rest
    else (if ends_word separates rest then (c ∷ []) ∷ words separates rest else longer c (words separates rest))
