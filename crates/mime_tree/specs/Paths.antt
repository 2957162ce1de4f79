-- Paths as words.
use Rattle.std.specs.Prelude.{ℕ, zero, suc, ◌==◌, nat_le, not, List, [], ◌∷◌, take, drop, Option, Some, None, option_map, option_and_then, if◌then◌else◌}
use Rattle.std.specs.List.{prefix_len}
use Rattle.std.specs.Str.{encode_utf8_all}
use Rattle.mh_base.specs.Numbers.{number_of}

-- a number from 1 to 9999
abbrev pub small : ℕ → Option ℕ
small n = if nat_le n 9999 then Some n else None

abbrev pub step_of : List ℕ → Option ℕ
step_of word = option_and_then small (number_of word)

-- how many bytes stand before the first dot
abbrev pub word_len : List ℕ → ℕ
word_len text = prefix_len (λ b. not (b == 46)) text

-- a number, before nothing or before a dot and the rest of a path
abbrev pub path_with : ℕ → List ℕ → (List ℕ → Option (List ℕ)) → Option (List ℕ)
path_with n [] more = Some (n ∷ [])
path_with n (dot ∷ rest) more = option_map (λ ns. n ∷ ns) (more rest)

-- numbers joined by dots, at most so many
unfoldable pub path_up_to : ℕ → List ℕ → Option (List ℕ)
path_up_to zero text = None
path_up_to (suc n) text =
    option_and_then (λ number. path_with number (drop (word_len text) text) (path_up_to n))
    (step_of (take (word_len text) text))

-- the path that a text is: at most 64 numbers joined by dots
unfoldable pub path_of : List ℕ → Option (List ℕ)
path_of text = path_up_to 64 (encode_utf8_all text)
