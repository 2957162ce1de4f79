-- Where comments end (RFC 5322, section 3.2.2).
use Rattle.std.specs.Prelude.{ℕ, ◌+◌, ◌-◌, ◌==◌, ◌&&◌, not, Bool, List, [], ◌∷◌, Option, Some, None, option_map, if◌then◌else◌}

-- a backslash that protects the next byte
abbrev pub protects : Bool → ℕ → Bool
protects protected c = not protected && c == 92

-- a parenthesis that closes the comment in which so many others are open
abbrev pub closes : ℕ → Bool → ℕ → Bool
closes depth protected c = not protected && c == 41 && depth == 0

-- how many comments are open within the comment behind this byte
abbrev pub depth_behind : ℕ → Bool → ℕ → ℕ
depth_behind depth protected c =
    if not protected && c == 40 then depth + 1 else (if not protected && c == 41 then depth - 1 else depth)

-- the place of the parenthesis that closes a comment in which so many others are open; comments may stand in one
-- another, and a backslash protects the byte behind it
unfoldable pub comment_end : ℕ → Bool → List ℕ → Option ℕ
comment_end depth protected [] = None
comment_end depth protected (c ∷ rest) =
    if closes depth protected c then Some 0
    else option_map (λ n. n + 1) (comment_end (depth_behind depth protected c) (protects protected c) rest)
