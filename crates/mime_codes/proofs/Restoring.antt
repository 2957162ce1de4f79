-- What was written as base64 text is read as the same bytes.
use Rattle.std.proofs.Common.{◌≡◌, ℕ, zero, suc, ◌+◌, ◌*◌, ◌/◌, ◌%◌, ◌<◌, ◌≤◌, Bool, true, false, cond, List, [], ◌∷◌, ◌++◌, length, take, drop, get_or, map, filter, slice_index, refl, sym, ap, ◌∙◌, arith, length-drop, append-nil}
use Rattle.std.specs.Prelude.{◌==◌, ◌&&◌, not, replicate, take_while}
use Rattle.std.proofs.lemmas.List.{take-append-drop}
use Rattle.std.proofs.lemmas.List.Sums.{take_while-cons}
use Rattle.std.proofs.lemmas.Bool.{and_parts, eqb-true}
use Rattle.base64.specs.Rfc4648.{encode, encode_symbols, padding_len}
use Rattle.base64.specs.Tables.{all_below}
use Rattle.base64.proofs.Tables.{all_below_at}
use Rattle.mime_codes.specs.Base64.{alphabet, is_symbol, sextet, octets, lines_up_to, in_lines, b64_encoded, b64_decoded}

-- the symbols that a text has before its padding
abbrev symbols_of : List ℕ → List ℕ
symbols_of text = filter is_symbol (take_while (λ c. not (c == 61)) text)

first_of : (c : ℕ) (text : List ℕ) → symbols_of (c ∷ text) ≡ cond (not (c == 61)) (cond (is_symbol c) (c ∷ symbols_of text) (symbols_of text)) []
first_of c text = ap (filter is_symbol) (take_while-cons (λ x. not (x == 61)) c text) ∙ by (not (c == 61))
  where
    by : (t : Bool) → filter is_symbol (cond t (c ∷ take_while (λ x. not (x == 61)) text) []) ≡ cond t (cond (is_symbol c) (c ∷ symbols_of text) (symbols_of text)) []
    by true = refl
    by false = refl

-- texts that differ behind a front part alone
same_behind : (front a b : List ℕ) → symbols_of a ≡ symbols_of b → symbols_of (front ++ a) ≡ symbols_of (front ++ b)
same_behind [] a b e = e
same_behind (c ∷ front) a b e =
    first_of c (front ++ a) ∙ ap (λ s. cond (not (c == 61)) (cond (is_symbol c) (c ∷ s) s) []) (same_behind front a b e) ∙ sym (first_of c (front ++ b))

-- a line feed is none
feed_passed : (text : List ℕ) → symbols_of (10 ∷ text) ≡ symbols_of text
feed_passed text = first_of 10 text

unlined_up_to : (n : ℕ) (text : List ℕ) → length text ≤ n → symbols_of (lines_up_to n text) ≡ symbols_of text
unlined_up_to zero [] le = refl
unlined_up_to zero (c ∷ text) le = absurd (omega arith)
unlined_up_to (suc n) [] le = refl
unlined_up_to (suc n) (c ∷ text) le =
    let more = unlined_up_to n (drop 76 (c ∷ text)) (omega (arith, length-drop 76 (c ∷ text))) in
    same_behind (take 76 (c ∷ text)) (10 ∷ lines_up_to n (drop 76 (c ∷ text))) (drop 76 (c ∷ text)) (feed_passed (lines_up_to n (drop 76 (c ∷ text))) ∙ more)
    ∙ ap symbols_of (take-append-drop 76 (c ∷ text))

unlined : (text : List ℕ) → symbols_of (in_lines text) ≡ symbols_of text
unfolding in_lines
unlined text = unlined_up_to (length text) text (omega arith)

-- each number's symbol is one, has that number, and is no padding
abbrev is_restored : ℕ → Bool
is_restored v = is_symbol (slice_index alphabet v) && (sextet (slice_index alphabet v) == v) && not (slice_index alphabet v == 61)

each_restored : all_below is_restored 64 ≡ true
each_restored = refl

restored : (v : ℕ) → v < 64 → (is_symbol (slice_index alphabet v) ≡ true) × (sextet (slice_index alphabet v) ≡ v) × (not (slice_index alphabet v == 61) ≡ true)
restored v lt =
    let all = and_parts (is_symbol (slice_index alphabet v) && (sextet (slice_index alphabet v) == v)) (not (slice_index alphabet v == 61)) (all_below_at is_restored 64 v each_restored lt) in
    let both = and_parts (is_symbol (slice_index alphabet v)) (sextet (slice_index alphabet v) == v) all.0 in
    (both.0, eqb-true (sextet (slice_index alphabet v)) v both.1, all.1)

symbol_kept : (v : ℕ) (text : List ℕ) → v < 64 → symbols_of (slice_index alphabet v ∷ text) ≡ slice_index alphabet v ∷ symbols_of text
symbol_kept v text lt = let is = restored v lt in first_of (slice_index alphabet v) text ∙ rw (is.0, is.2) refl

abbrev AreBytes : List ℕ → Type 0
AreBytes m = (i : ℕ) → get_or m i 0 < 256

symbol_first : (v : ℕ) (text more : List ℕ) → v < 64 → symbols_of text ≡ more → symbols_of (slice_index alphabet v ∷ text) ≡ slice_index alphabet v ∷ more
symbol_first v text more lt e = symbol_kept v text lt ∙ ap (λ s. slice_index alphabet v ∷ s) e

two_first : (v w : ℕ) (text more : List ℕ) → v < 64 → w < 64 → symbols_of text ≡ more → symbols_of (slice_index alphabet v ∷ slice_index alphabet w ∷ text) ≡ slice_index alphabet v ∷ slice_index alphabet w ∷ more
two_first v w text more lv lw e = symbol_first v (slice_index alphabet w ∷ text) (slice_index alphabet w ∷ more) lv (symbol_first w text more lw e)

symbols_kept : (m text : List ℕ) → AreBytes m → symbols_of (encode_symbols alphabet m ++ text) ≡ encode_symbols alphabet m ++ symbols_of text
unfolding encode_symbols
symbols_kept [] text low = refl
symbols_kept (a ∷ []) text low =
    let la : a < 256 = low 0 in
    two_first (a / 4) (a % 4 * 16) text (symbols_of text) (omega (arith, la)) (omega arith) refl
symbols_kept (a ∷ b ∷ []) text low =
    let la : a < 256 = low 0 in
    let lb : b < 256 = low 1 in
    let last : ℕ = slice_index alphabet (b % 16 * 4) in
    two_first (a / 4) (a % 4 * 16 + b / 16) (last ∷ text) (last ∷ symbols_of text) (omega (arith, la)) (omega (arith, lb)) (symbol_kept (b % 16 * 4) text (omega arith))
symbols_kept (a ∷ b ∷ c ∷ rest) text low =
    let la : a < 256 = low 0 in
    let lb : b < 256 = low 1 in
    let lc : c < 256 = low 2 in
    let third : ℕ = slice_index alphabet (b % 16 * 4 + c / 64) in
    let last : ℕ = slice_index alphabet (c % 64) in
    two_first (a / 4) (a % 4 * 16 + b / 16) (third ∷ last ∷ (encode_symbols alphabet rest ++ text)) (third ∷ last ∷ (encode_symbols alphabet rest ++ symbols_of text)) (omega (arith, la)) (omega (arith, lb))
    (two_first (b % 16 * 4 + c / 64) (c % 64) (encode_symbols alphabet rest ++ text) (encode_symbols alphabet rest ++ symbols_of text) (omega (arith, lc)) (omega arith)
    (symbols_kept rest text (λ i. low (suc (suc (suc i))))))

padding_dropped : (n : ℕ) → symbols_of (replicate n 61) ≡ []
padding_dropped zero = refl
padding_dropped (suc n) = first_of 61 (replicate n 61)

number_back : (v : ℕ) → v < 64 → sextet (slice_index alphabet v) ≡ v
number_back v lt = (restored v lt).1

low_back : (a b : ℕ) → b < 256 → a / 4 * 4 + (a % 4 * 16 + b / 16) / 16 ≡ a
low_back a b lb = omega arith

mid_back : (a b c : ℕ) → b < 256 → c < 256 → (a % 4 * 16 + b / 16) % 16 * 16 + (b % 16 * 4 + c / 64) / 4 ≡ b
mid_back a b c lb lc = omega arith

high_back : (b c : ℕ) → c < 256 → (b % 16 * 4 + c / 64) % 4 * 64 + c % 64 ≡ c
high_back b c lc = omega arith

octets_back : (m : List ℕ) → AreBytes m → octets (map sextet (encode_symbols alphabet m)) ≡ m
unfolding encode_symbols octets
octets_back [] low = refl
octets_back (a ∷ []) low =
    let la : a < 256 = low 0 in
    let first : a / 4 * 4 + a % 4 * 16 / 16 ≡ a = omega arith in
    rw (number_back (a / 4) (omega (arith, la)), number_back (a % 4 * 16) (omega arith), first) refl
octets_back (a ∷ b ∷ []) low =
    let la : a < 256 = low 0 in
    let lb : b < 256 = low 1 in
    let second : (a % 4 * 16 + b / 16) % 16 * 16 + b % 16 * 4 / 4 ≡ b = omega arith in
    rw (number_back (a / 4) (omega (arith, la)), number_back (a % 4 * 16 + b / 16) (omega (arith, lb)), number_back (b % 16 * 4) (omega arith), low_back a b lb, second) refl
octets_back (a ∷ b ∷ c ∷ rest) low =
    let la : a < 256 = low 0 in
    let lb : b < 256 = low 1 in
    let lc : c < 256 = low 2 in
    rw (
      number_back (a / 4) (omega (arith, la)),
      number_back (a % 4 * 16 + b / 16) (omega (arith, lb)),
      number_back (b % 16 * 4 + c / 64) (omega (arith, lc)),
      number_back (c % 64) (omega arith),
      low_back a b lb,
      mid_back a b c lb lc,
      high_back b c lc,
      octets_back rest (λ i. low (suc (suc (suc i)))),
    ) refl

pub bytes_back : (bytes : List ℕ) → ((i : ℕ) → get_or bytes i 0 < 256) → b64_decoded (b64_encoded bytes) ≡ bytes
bytes_back bytes low =
    ap (λ s. octets (map sextet s)) (unlined (encode alphabet 61 true bytes) ∙ symbols_kept bytes (replicate (padding_len (length bytes)) 61) low
    ∙ ap (λ p. encode_symbols alphabet bytes ++ p) (padding_dropped (padding_len (length bytes))) ∙ append-nil (encode_symbols alphabet bytes))
    ∙ octets_back bytes low
