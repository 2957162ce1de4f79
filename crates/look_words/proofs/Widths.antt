-- Widths in digits.
use Rattle.std.proofs.Common.{◌≡◌, ℕ, ◌<◌, ◌≤◌, ◌^◌, Bool, true, false, List, [], ◌∷◌, Some, None, refl, sym, ◌∙◌, ap, subst, arith}
use Rattle.std.specs.Prelude.{nat_le, ◌==◌, ◌&&◌, drop, if◌then◌else◌}
use Rattle.std.specs.Char.{digit_value}
use Rattle.std.specs.List.{list_all}
use Rattle.std.specs.Str.Parse.{AllDigits, IsNumeral, digits_value, without_leading_plus}
use Rattle.std.proofs.lemmas.Bool.{and_parts, leb-true}
use Rattle.std.proofs.lemmas.Bool.Decides.{Decides-eqb}
use Rattle.std.proofs.lemmas.Str.{digit_value_digit}
use Rattle.look_words.specs.Columns.{columns_in, within_columns}
use Rattle.mh_base.specs.Characters.{is_digit}

digit_below : (c : ℕ) → is_digit c ≡ true → digit_value c < 10
digit_below c e =
    let parts = and_parts (nat_le 48 c) (nat_le c 57) e in
    let from : 48 ≤ c = leb-true 48 c parts.0 in
    let to : c ≤ 57 = leb-true c 57 parts.1 in
    let value = digit_value_digit c (from, to) in omega (arith, value, to)

all_digits : (text : List ℕ) → list_all is_digit text ≡ true → AllDigits 10 text
all_digits [] e = tt
all_digits (c ∷ text) e = let parts = and_parts (is_digit c) (list_all is_digit text) e in (digit_below c parts.0, all_digits text parts.1)

-- a digit is no plus sign
no_plus : (text : List ℕ) → list_all is_digit text ≡ true → without_leading_plus text ≡ text
no_plus [] e = refl
no_plus (c ∷ text) e = go (c == 43) refl
  where
    go : (b : Bool) → (c == 43) ≡ b → drop (if b then 1 else 0) (c ∷ text) ≡ c ∷ text
    go false is = refl
    go true is =
        let one : c ≡ 43 = (Decides-eqb c 43).0 is in
        let low : 48 ≤ c = leb-true 48 c (and_parts (nat_le 48 c) (nat_le c 57) (and_parts (is_digit c) (list_all is_digit text) e).0).0 in absurd (omega (arith, one, low))

-- a numeral of 32 bits
abbrev IsShort : List ℕ → Type 0
IsShort text = IsNumeral 10 (without_leading_plus text) × (digits_value 10 (without_leading_plus text) < 2 ^ 32)

-- the number that was read
pub ok_columns : (text : List ℕ) (n : ℕ) → list_all is_digit text ≡ true → IsShort text × (n ≡ digits_value 10 (without_leading_plus text)) → within_columns n ≡ columns_in text
ok_columns text n all parsed = rw all (ap within_columns (parsed.1 ∙ ap (digits_value 10) (no_plus text all)))

-- what can't be read is too large, or no digit
too_large : (text : List ℕ) (v : ℕ) → (v < 2 ^ 32 → ⊥) → None ≡ within_columns v
too_large text v never = go (nat_le 1 v && nat_le v 10000) refl
  where
    go : (b : Bool) → (nat_le 1 v && nat_le v 10000) ≡ b → None ≡ (if b then Some v else None)
    go false is = refl
    go true is = let low : v ≤ 10000 = leb-true v 10000 (and_parts (nat_le 1 v) (nat_le v 10000) is).1 in absurd (never (omega (arith, low)))

pub err_columns : (text : List ℕ) → list_all is_digit text ≡ true → (IsShort text → ⊥) → None ≡ columns_in text
err_columns [] all parsed = refl
err_columns (c ∷ text) all parsed =
    let same = no_plus (c ∷ text) all in
    rw all (too_large (c ∷ text) (digits_value 10 (c ∷ text)) (λ low. parsed (subst (λ z. IsNumeral 10 z × (digits_value 10 z < 2 ^ 32)) (sym same) ((omega arith, all_digits (c ∷ text) all), low))))
