-- Words and the blanks between them.
use Rattle.std.specs.Prelude.{ℕ, ◌==◌, ◌||◌, Bool, false, not, List, [], ◌∷◌, drop, Option, Some, None, if◌then◌else◌}
use Rattle.std.specs.List.{prefix_len}
use Rattle.mh_base.specs.Characters.{is_blank}

abbrev pub behind_blanks : List ℕ → List ℕ
behind_blanks text = drop (prefix_len is_blank text) text

-- how many bytes stand before the first blank
abbrev pub word_len : List ℕ → ℕ
word_len text = prefix_len (λ b. not (is_blank b)) text

-- the text begins with this byte
abbrev pub is_led : ℕ → List ℕ → Bool
is_led byte [] = false
is_led byte (b ∷ rest) = b == byte

-- what follows this byte at the front
abbrev pub behind_byte : ℕ → List ℕ → Option (List ℕ)
behind_byte byte [] = None
behind_byte byte (b ∷ rest) = if b == byte then Some rest else None

-- what follows a word that ends here: blanks stand there, or a semicolon
abbrev pub behind_word : List ℕ → Option (List ℕ)
behind_word [] = None
behind_word (b ∷ rest) = if is_blank b || b == 59 then Some (behind_blanks (b ∷ rest)) else None
