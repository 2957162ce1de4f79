-- What was written as quoted-printable text is read as the same bytes.
use Rattle.std.proofs.Common.{◌≡◌, ℕ, suc, ◌+◌, ◌*◌, ◌/◌, ◌%◌, ◌<◌, Bool, true, false, eqb, Some, List, [], ◌∷◌, ◌++◌, length, get_or, refl, ◌∙◌, ap, arith}
use Rattle.std.proofs.lemmas.Bool.Decides.{nat_tests}
use Rattle.mime_codes.specs.Hexadecimal.{hex_digit, hex_value, byte_by}
use Rattle.mime_codes.specs.QuotedPrintable.{ends_line, is_line_over, is_plain, item, has_room, placed, encoded_from, decoded_behind, qp_decoded}
use Rattle.mime_codes.proofs.Encoding.{line_feed, no_feed, plain_item, other_item}
use Rattle.mime_codes.proofs.Reading.{blanks_more, blank_kept, other_kept}
use Rattle.mh_base.specs.Characters.{is_blank}

-- a byte that ends no line and is no blank
lead_other : (b : ℕ) (more : List ℕ) → is_blank b ≡ false → eqb b 10 ≡ false → eqb b 13 ≡ false → ends_line (b ∷ more) ≡ false
lead_other b more e feed return = rw (e, feed, return) refl

blank_ends : (b : ℕ) (more : List ℕ) → is_blank b ≡ true → ends_line (b ∷ more) ≡ ends_line more
blank_ends b more e = rw (blanks_more b more e) refl

plain_lead : (b : ℕ) (rest : List ℕ) → is_plain b rest ≡ true → is_blank b ≡ false → (eqb b 10 ≡ false) × (eqb b 13 ≡ false) × (eqb b 61 ≡ false)
plain_lead b rest plain other = (grind (arith, nat_tests), grind (arith, nat_tests), grind (arith, nat_tests))

blank_lead : (b : ℕ) (rest : List ℕ) → is_plain b rest ≡ true → is_blank b ≡ true → is_line_over rest ≡ false
blank_lead b rest plain blank = grind (arith, nat_tests)

digit_back : (n : ℕ) → n < 16 → hex_value (hex_digit n) ≡ Some n
digit_back n h = grind (arith, nat_tests)

byte_back : (high low : ℕ) → high < 16 → low < 16 → byte_by (hex_value (hex_digit high)) (hex_value (hex_digit low)) ≡ Some (16 * high + low)
byte_back high low h l = rw (digit_back high h, digit_back low l) refl

whole_byte : (b : ℕ) → b < 256 → byte_by (hex_value (hex_digit (b / 16))) (hex_value (hex_digit (b % 16))) ≡ Some b
whole_byte b h = byte_back (b / 16) (b % 16) (omega arith) (omega arith) ∙ ap Some (omega arith)

-- a line that isn't over goes on with something other than blanks and a line end
goes_on_by : (column b : ℕ) (rest : List ℕ) (p k r : Bool) → (b ≡ 10 → ⊥) → is_plain b rest ≡ p → is_blank b ≡ k → has_room column (length (item b rest)) rest ≡ r →
    ((n : ℕ) → is_line_over rest ≡ false → ends_line (encoded_from n rest) ≡ false) → ends_line (encoded_from column (b ∷ rest)) ≡ false
goes_on_by column b rest p k false other plain blank room more = rw (no_feed column b rest other, room) refl
goes_on_by column b rest false k true other plain blank room more = rw (no_feed column b rest other, room, other_item b rest plain) refl
goes_on_by column b rest true false true other plain blank room more =
    let lead = plain_lead b rest plain blank in
    rw (no_feed column b rest other, room, plain_item b rest plain) (lead_other b (encoded_from (column + 1) rest) blank lead.0 lead.1)
goes_on_by column b rest true true true other plain blank room more =
    rw (no_feed column b rest other, room, plain_item b rest plain) (blank_ends b (encoded_from (column + 1) rest) blank ∙ more (column + 1) (blank_lead b rest plain blank))

goes_on : (column : ℕ) (rest : List ℕ) → is_line_over rest ≡ false → ends_line (encoded_from column rest) ≡ false
goes_on column [] e = cc e
goes_on column (b ∷ rest) e =
    goes_on_by column b rest (is_plain b rest) (is_blank b) (has_room column (length (item b rest)) rest) (grind (arith, nat_tests)) refl refl refl (λ n over. goes_on n rest over)

-- an item is read as its byte
item_read : (b : ℕ) (rest more : List ℕ) (p k : Bool) → b < 256 → is_plain b rest ≡ p → is_blank b ≡ k → (is_line_over rest ≡ false → ends_line more ≡ false) → qp_decoded (item b rest ++ more) ≡ b ∷ qp_decoded more
unfolding decoded_behind
item_read b rest more false k lt plain blank goes = rw (other_item b rest plain, whole_byte b lt) refl
item_read b rest more true false lt plain blank goes = rw (plain_item b rest plain) (other_kept b more (plain_lead b rest plain blank).2 blank)
item_read b rest more true true lt plain blank goes = rw (plain_item b rest plain) (blank_kept b more blank (goes (blank_lead b rest plain blank)))

-- a soft line break is read as nothing
break_read : (more : List ℕ) → qp_decoded (61 ∷ 10 ∷ more) ≡ qp_decoded more
unfolding decoded_behind
break_read [] = refl
break_read (c ∷ more) = refl

feed_read : (more : List ℕ) → qp_decoded (10 ∷ more) ≡ 10 ∷ qp_decoded more
unfolding decoded_behind
feed_read more = refl

placed_read : (column b : ℕ) (rest : List ℕ) (r : Bool) → b < 256 → has_room column (length (item b rest)) rest ≡ r → ((n : ℕ) → qp_decoded (encoded_from n rest) ≡ rest) →
    qp_decoded (placed column (item b rest) rest (λ n. encoded_from n rest)) ≡ b ∷ rest
placed_read column b rest true lt room more =
    rw room (item_read b rest (encoded_from (column + length (item b rest)) rest) (is_plain b rest) (is_blank b) lt refl refl (goes_on (column + length (item b rest)) rest) ∙ ap (λ x. b ∷ x) (more (column + length (item b rest))))
placed_read column b rest false lt room more =
    rw room (break_read (item b rest ++ encoded_from (length (item b rest)) rest)
    ∙ item_read b rest (encoded_from (length (item b rest)) rest) (is_plain b rest) (is_blank b) lt refl refl (goes_on (length (item b rest)) rest) ∙ ap (λ x. b ∷ x) (more (length (item b rest))))

read_by : (column b : ℕ) (rest : List ℕ) (t : Bool) → b < 256 → eqb b 10 ≡ t → ((n : ℕ) → qp_decoded (encoded_from n rest) ≡ rest) → qp_decoded (encoded_from column (b ∷ rest)) ≡ b ∷ rest
read_by column b rest true lt e more =
    let is : b ≡ 10 = grind (arith, nat_tests) in
    rw (is, line_feed column rest) (feed_read (encoded_from 0 rest) ∙ ap (λ x. 10 ∷ x) (more 0))
read_by column b rest false lt e more =
    let other : b ≡ 10 → ⊥ = grind (arith, nat_tests) in
    ap qp_decoded (no_feed column b rest other) ∙ placed_read column b rest (has_room column (length (item b rest)) rest) lt refl more

pub returned : (column : ℕ) (bytes : List ℕ) → ((i : ℕ) → get_or bytes i 0 < 256) → qp_decoded (encoded_from column bytes) ≡ bytes
unfolding decoded_behind encoded_from
returned column [] low = refl
returned column (b ∷ rest) low = read_by column b rest (eqb b 10) (low 0) refl (λ n. returned n rest (λ i. low (suc i)))
