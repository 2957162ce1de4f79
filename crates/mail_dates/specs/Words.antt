-- The words of a header's date.
use Rattle.std.specs.Prelude.{ℕ, zero, suc, ◌==◌, ◌||◌, Bool, List, [], ◌∷◌, if◌then◌else◌}

-- a text without its comments, which begins inside so many: parentheses, which may nest, and a backslash in them
-- protects the byte behind it (RFC 5322, section 3.2.2); a comment without its end runs to the end of the text
unfoldable pub outside : ℕ → List ℕ → List ℕ
outside depth [] = []
outside zero (b ∷ rest) = if b == 40 then outside 1 rest else b ∷ outside 0 rest
outside (suc n) (b ∷ []) = []
outside (suc n) (b ∷ c ∷ rest) =
    if b == 92 then outside (suc n) rest
    else (if b == 40 then outside (suc (suc n)) (c ∷ rest)
    else (if b == 41 then outside n (c ∷ rest) else outside (suc n) (c ∷ rest)))

-- a space, a tab or a comma
abbrev pub is_separator : ℕ → Bool
is_separator b = b == 32 || b == 9 || b == 44
