-- What a word is to a command that has no switches and takes the lone dash as a name.
use Rattle.std.specs.Prelude.{ℕ, ◌+◌, ◌==◌, ◌&&◌, Bool, false, not, List, [], ◌∷◌, ◌++◌, Option, None, Some, min, if◌then◌else◌}
use Rattle.std.specs.Str.{encode_utf8_all}
use Rattle.build_words.specs.declared.sort.Sort.{Sort}
use Rattle.build_words.specs.declared.sort.Sort.TheVariants.{Switch, Folder, Name}

-- a dash, and more behind it
abbrev pub is_switch : List ℕ → Bool
is_switch [] = false
is_switch (c ∷ []) = false
is_switch (c ∷ (d ∷ rest)) = c == 45

-- a plus sign first
abbrev pub is_folder : List ℕ → Bool
is_folder [] = false
is_folder (c ∷ rest) = c == 43

-- the word, of these characters, is of this sort
abbrev pub is_of : Sort → List ℕ → Bool
is_of Switch word = is_switch (encode_utf8_all word)
is_of Folder word = is_folder (encode_utf8_all word)
is_of Name word = not (is_switch (encode_utf8_all word)) && not (is_folder (encode_utf8_all word))

abbrev pub place_if : Bool → ℕ → List ℕ
place_if is place = if is then place ∷ [] else []

-- the places of the words of this sort, of which the first word has this place
unfoldable pub places : Sort → ℕ → List (List ℕ) → List ℕ
places sort place [] = []
places sort place (word ∷ words) = place_if (is_of sort word) place ++ places sort (place + 1) words

-- the lesser of two places that may not be there
abbrev pub least : Option ℕ → Option ℕ → Option ℕ
least None b = b
least (Some a) None = Some a
least (Some a) (Some b) = Some (min a b)
