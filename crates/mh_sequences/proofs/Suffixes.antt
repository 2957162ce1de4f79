-- What stands behind the name of a private sequence in the name of its entry is part of a name, whatever the folder.
use Rattle.std.proofs.Common.{◌≡◌, ◌≤◌, ◌<◌, ◌+◌, ◌%◌, ◌/◌, ◌∷◌, [], ℕ, Bool, true, false, List, refl, ap, arith}
use Rattle.std.specs.Prelude.{◌==◌, ◌&&◌, not, nat_le, nat_lt, if◌then◌else◌}
use Rattle.std.specs.Fmt.{digit_glyph}
use Rattle.std.specs.List.{flat_map, list_all}
use Rattle.std.specs.Str.{encode_utf8_all}
use Rattle.std.proofs.lemmas.Bool.{and_from, and_parts, le-leb, ltb-true, ne_eqb}
use Rattle.mail_headers.specs.Lines.{is_name_byte}
use Rattle.mh_sequences.specs.Reading.{escape, is_plain, suffix}
use Rattle.mh_sequences.proofs.ContextEntries.{clean_both}

name_byte_at : (b : ℕ) → 33 ≤ b → b ≤ 126 → (b ≡ 58 → ⊥) → is_name_byte b ≡ true
name_byte_at b low high apart = and_from (nat_le 33 b && nat_le b 126) (not (b == 58)) (and_from (nat_le 33 b) (nat_le b 126) (le-leb 33 b low) (le-leb b 126 high)) (ap not (ne_eqb b 58 apart))

glyph_clean : (d : ℕ) → d < 16 → is_name_byte (digit_glyph true d) ≡ true
glyph_clean d small = go (nat_lt d 10) refl
  where
    go : (b : Bool) → nat_lt d 10 ≡ b → is_name_byte (if b then 48 + d else 55 + d) ≡ true
    go true e = let ten = ltb-true d 10 e in name_byte_at (48 + d) (omega arith) (omega (arith, ten)) (λ q. omega (arith, ten, q))
    go false e = name_byte_at (55 + d) (omega arith) (omega (arith, small)) (λ q. let three : d ≡ 3 = omega (arith, q) in absurd (cc (ap (λ n. nat_lt n 10) three, e)))

rest_small : (n : ℕ) → n % 16 < 16
rest_small n = omega arith

escape_clean : (b : ℕ) → list_all is_name_byte (escape b) ≡ true
escape_clean b = go (is_plain b) refl
  where
    go : (p : Bool) → is_plain b ≡ p → list_all is_name_byte (if p then b ∷ [] else 37 ∷ digit_glyph true (b / 16 % 16) ∷ digit_glyph true (b % 16) ∷ []) ≡ true
    go true e = let parts = and_parts (nat_le 33 b && nat_le b 126 && not (b == 58)) (not (b == 37)) e in and_from (is_name_byte b) true parts.0 refl
    go false e = rw (glyph_clean (b / 16 % 16) (rest_small (b / 16)), glyph_clean (b % 16) (rest_small b)) refl

all_clean : (bs : List ℕ) → list_all is_name_byte (flat_map escape bs) ≡ true
all_clean [] = refl
all_clean (b ∷ bs) = clean_both (escape b) (flat_map escape bs) (escape_clean b) (all_clean bs)

pub suffix_clean : (folder : List ℕ) → list_all is_name_byte (suffix folder) ≡ true
unfolding suffix
suffix_clean folder = all_clean (encode_utf8_all folder)
