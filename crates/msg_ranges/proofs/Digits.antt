-- Bytes of numbers and of names.
use Rattle.std.proofs.Common.{◌≡◌, ℕ, ◌<◌, ◌≤◌, ◌^◌, Bool, true, false, Some, None, List, [], ◌∷◌, length, refl, sym, ◌∙◌, ap, subst, arith}
use Rattle.std.specs.Prelude.{◌&&◌, ◌==◌, nat_le, nat_lt, decimal, bytes_eq, Option}
use Rattle.std.specs.List.{list_all}
use Rattle.std.specs.Str.Parse.{AllDigits}
use Rattle.std.specs.Char.{is_ascii_alphanumeric}
use Rattle.std.proofs.lemmas.Bool.{eqb-true, and_parts, and_from, leb-true, le-leb, ltb-true, ne_eqb, or_from, both_ways, false_from_ne_true}
use Rattle.std.proofs.lemmas.Fmt.{decimal_is_IsNumeral}
use Rattle.std.proofs.lemmas.Str.Parse.{digit_from_value}
use Rattle.mh_base.specs.Numbers.{IsMsgNum, number_of, decimal_of, in_range}
use Rattle.mh_base.proofs.Decimals.{decimal_of_is}
use Rattle.mh_sequences.specs.Names.{is_seq_name, begins_with_letter}
use Rattle.mh_sequences.proofs.AsciiNames.{name_bytes, name_starts, low, judged}
use Rattle.mh_sequences.proofs.Bools.{choose}
use Rattle.std.proofs.lemmas.Bool.Decides.{nat_tests}
use Rattle.std.specs.Str.{chars, encode_utf8_all, IsUtf8}
use Rattle.std.proofs.lemmas.Str.{encodes-chars}
use Rattle.mh_sequences.proofs.NamePlaces.{same_is}
use Rattle.msg_ranges.proofs.Cutting.{stands}
use Rattle.mh_base.specs.Characters.{is_digit}

digits_all : (ds : List ℕ) → AllDigits 10 ds → list_all is_digit ds ≡ true
digits_all [] h = refl
digits_all (d ∷ ds) h =
    let r = digit_from_value d h.0 in
    and_from (is_digit d) (list_all is_digit ds) (and_from (nat_le 48 d) (nat_le d 57) (le-leb 48 d r.0) (le-leb d 57 r.1)) (digits_all ds h.1)

small : (n : ℕ) → n ≤ 999999 → n < 2 ^ 64
small n h = omega arith

-- a number's text: digits, at least one
pub digits : (n : ℕ) → IsMsgNum n → list_all is_digit (decimal n) ≡ true
digits n h = digits_all (decimal n) (decimal_is_IsNumeral n (small n h.1)).0.1

pub some_digit : (n : ℕ) → IsMsgNum n → 0 < length (decimal n)
some_digit n h = (decimal_is_IsNumeral n (small n h.1)).0.0

-- a byte that none of a text's bytes is
none_stands : (mark : ℕ) (p : ℕ → Bool) (text : List ℕ) → ((b : ℕ) → p b ≡ true → (b == mark) ≡ false) → list_all p text ≡ true → stands mark text ≡ false
none_stands mark p [] apart h = refl
none_stands mark p (b ∷ text) apart h =
    let parts = and_parts (p b) (list_all p text) h in
    or_from (b == mark) (stands mark text) (apart b parts.0) (none_stands mark p text apart parts.1)

pub digit_range : (b : ℕ) → is_digit b ≡ true → (48 ≤ b) × (b ≤ 57)
digit_range b h = let parts = and_parts (nat_le 48 b) (nat_le b 57) h in (leb-true 48 b parts.0, leb-true b 57 parts.1)

pub number_dash : (n : ℕ) → IsMsgNum n → stands 45 (decimal n) ≡ false
number_dash n h = none_stands 45 is_digit (decimal n) (λ b t. let r = digit_range b t in ne_eqb b 45 (λ e. omega arith)) (digits n h)

pub number_colon : (n : ℕ) → IsMsgNum n → stands 58 (decimal n) ≡ false
number_colon n h = none_stands 58 is_digit (decimal n) (λ b t. let r = digit_range b t in ne_eqb b 58 (λ e. omega arith)) (digits n h)

colon_apart : (b : ℕ) → is_ascii_alphanumeric b ≡ true → (b == 58) ≡ false
colon_apart b t = false_from_ne_true (b == 58) (λ e. let is = eqb-true b 58 e in let t58 : is_ascii_alphanumeric 58 ≡ true = ap is_ascii_alphanumeric (sym is) ∙ t in cc)

pub name_dash : (s : List ℕ) → is_seq_name s ≡ true → stands 45 s ≡ false
name_dash s h = none_stands 45 is_ascii_alphanumeric s (λ b t. let r = low b t in ne_eqb b 45 (λ e. omega arith)) (name_bytes s h)

pub name_colon : (s : List ℕ) → is_seq_name s ≡ true → stands 58 s ≡ false
name_colon s h = none_stands 58 is_ascii_alphanumeric s colon_apart (name_bytes s h)

-- digits are no such word
pub no_word : (text word : List ℕ) → list_all is_digit text ≡ true → list_all is_digit word ≡ false → bytes_eq text word ≡ false
no_word text word h e = false_from_ne_true (bytes_eq text word) (λ t. both_ways (list_all is_digit word) e (subst (λ z. list_all is_digit z ≡ true) (same_is text word t) h))

-- what is read as a number is its text
pub number_is : (text : List ℕ) (n : ℕ) → number_of text ≡ Some n → IsMsgNum n × (text ≡ decimal n)
number_is text n h = by (decimal_of text) refl h
  where
    by : (o : Option ℕ) → decimal_of text ≡ o → in_range o ≡ Some n → IsMsgNum n × (text ≡ decimal n)
    by None e h = cc
    by (Some v) e h =
        choose (λ o. o ≡ Some n → IsMsgNum n × (text ≡ decimal n)) (nat_lt 0 v && nat_lt v 1000000) (Some v) None
        (λ t k.
        let parts = and_parts (nat_lt 0 v) (nat_lt v 1000000) t in
        let low = ltb-true 0 v parts.0 in
        let high = ltb-true v 1000000 parts.1 in
        let same : v ≡ n = cc in
        ((omega arith, omega arith), (decimal_of_is text v e).1 ∙ ap decimal same))
        (λ t k. let never : None ≡ Some n = k in cc)
        h

-- a number's text is no sequence's name
pub no_name : (n : ℕ) → IsMsgNum n → is_seq_name (decimal n) ≡ true → ⊥
no_name n h t = by (decimal n) (digits n h) (name_starts (decimal n) t)
  where
    by : (ds : List ℕ) → list_all is_digit ds ≡ true → begins_with_letter ds ≡ true → ⊥
    by [] d b = cc
    by (x ∷ xs) d b =
        let r = digit_range x (and_parts (is_digit x) (list_all is_digit xs) d).0 in
        let up : 65 ≤ x = grind (arith, nat_tests) in
        omega arith

-- bytes are a name where the text in them is
pub read_name : (bytes shown text : List ℕ) → shown ≡ bytes → IsUtf8 bytes → text ≡ chars shown → is_seq_name bytes ≡ is_seq_name text
read_name bytes shown text e utf8 is =
    let same : chars bytes ≡ text = ap chars (sym e) ∙ sym is in
    judged bytes text same (sym (encodes-chars bytes utf8) ∙ ap encode_utf8_all same)
