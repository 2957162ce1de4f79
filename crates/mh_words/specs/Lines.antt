-- The words of a command line as one list.
use Rattle.std.specs.Prelude.{ℕ, List, ◌++◌, ◌≡◌, ◌∷◌, ◌+◌, drop}
use Rattle.mh_words.specs.declared.line.Line.{Line}

-- the profile's words, and then the command's
abbrev pub words_of : Line → List (List ℕ)
words_of line = line.profile.now ++ line.words.now

-- the word at this place, which is followed by the words from the next place on
abbrev pub IsWordAt : List (List ℕ) → ℕ → List ℕ → Type 0
IsWordAt words place word = drop place words ≡ word ∷ drop (place + 1) words
