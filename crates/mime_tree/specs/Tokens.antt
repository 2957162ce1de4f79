-- Tokens and quoted strings (RFC 2045, section 5.1; RFC 5322, section 3.2.4).
use Rattle.std.specs.Prelude.{ℕ, ◌+◌, ◌==◌, ◌&&◌, not, nat_le, Bool, true, false, List, [], ◌∷◌, take, drop, codes, slice_index, Option, Some, None, option_map, option_and_then, if◌then◌else◌}
use Rattle.std.specs.List.{prefix_len, list_any}
use Rattle.mime_tree.specs.Gaps.{behind_gap}

-- a character of a token: printable ASCII, and none of those that have a meaning of their own
abbrev pub is_token : ℕ → Bool
is_token c = nat_le 33 c && nat_le c 126 && not (list_any (λ s. s == c) (codes "()<>@,;:\\\"/[]?="))

-- a word and what follows it
pub record Taken : Type 0 where
  pub value : List ℕ
  pub rest : List ℕ

abbrev pub taken_at : ℕ → ℕ → List ℕ → Taken
taken_at len behind text = record { value = take len text; rest = drop behind text }

-- the token at the front
abbrev pub token_in : List ℕ → Option Taken
token_in text =
    let len = prefix_len is_token text in if len == 0 then None else Some (taken_at len len text)

-- the place of the quote mark that closes a string, which no backslash protects
unfoldable pub closing : Bool → List ℕ → Option ℕ
closing protected [] = None
closing protected (c ∷ rest) =
    if not protected && c == 34 then Some 0 else option_map (λ n. n + 1) (closing (not protected && c == 92) rest)

-- the inside of a quoted string, of which the first mark has been passed
abbrev pub quoted_in : List ℕ → Option Taken
quoted_in text = option_map (λ n. taken_at n (n + 1) text) (closing false text)

-- the token or the inside of the quoted string at the front
abbrev pub worth_in : List ℕ → Option Taken
worth_in text = if slice_index text 0 == 34 then quoted_in (drop 1 text) else token_in text

-- the inside of a quoted string from here on, without the backslashes that protect
unfoldable pub unprotected_at : Bool → List ℕ → List ℕ
unprotected_at protected [] = []
unprotected_at protected (c ∷ rest) =
    if not protected && c == 92 then unprotected_at true rest else c ∷ unprotected_at false rest

-- the inside of a quoted string without the backslashes that protect; a token has none
abbrev pub unprotected : List ℕ → List ℕ
unprotected text = unprotected_at false text

-- a word with the gap behind it
abbrev pub with_gap : Taken → Option Taken
with_gap t = option_map (λ rest. record { value = t.value; rest = rest }) (behind_gap t.rest)

-- what follows this sign and the gap behind it
abbrev pub behind_sign : ℕ → List ℕ → Option (List ℕ)
behind_sign sign [] = None
behind_sign sign (c ∷ rest) = if c == sign then behind_gap rest else None

-- the token at the front, with the gap behind it
abbrev pub word_in : List ℕ → Option Taken
word_in text = option_and_then with_gap (token_in text)
