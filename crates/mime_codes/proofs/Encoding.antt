-- Quoted-printable text as it is written.
use Rattle.std.proofs.Common.{◌≡◌, ℕ, ◌/◌, ◌%◌, ◌≤◌, true, false, eqb, List, [], ◌∷◌, ◌++◌, length, drop, refl, sym, ◌∙◌, ap, arith, append_assoc, append-nil}
use Rattle.std.proofs.lemmas.Bool.Decides.{nat_tests}
use Rattle.std.proofs.lemmas.List.{drop_all}
use Rattle.mime_codes.specs.Hexadecimal.{escape, hex_digit}
use Rattle.mime_codes.specs.QuotedPrintable.{is_plain, item, placed, encoded_from}

pub line_feed : (column : ℕ) (rest : List ℕ) → encoded_from column (10 ∷ rest) ≡ 10 ∷ encoded_from 0 rest
unfolding encoded_from
line_feed column rest = refl

pub no_feed : (column b : ℕ) (rest : List ℕ) → (b ≡ 10 → ⊥) → encoded_from column (b ∷ rest) ≡ placed column (item b rest) rest (λ n. encoded_from n rest)
unfolding encoded_from
no_feed column b rest other =
    let no_line_feed : eqb b 10 ≡ false = grind (arith, nat_tests) in
    rw no_line_feed refl

placed_by : (column b : ℕ) (rest it : List ℕ) → (b ≡ 10 → ⊥) → item b rest ≡ it → placed column it rest (λ n. encoded_from n rest) ≡ encoded_from column (b ∷ rest)
placed_by column b rest it other e = ap (λ i. placed column i rest (λ n. encoded_from n rest)) (sym e) ∙ sym (no_feed column b rest other)

-- a line feed is put
pub fed : (column b : ℕ) (old new rest : List ℕ) → b ≡ 10 → new ≡ old ++ b ∷ [] → new ++ encoded_from 0 rest ≡ old ++ encoded_from column (b ∷ rest)
fed column b old new rest feed e = rw (e, append_assoc, feed, line_feed column rest) refl

pub plain_item : (b : ℕ) (rest : List ℕ) → is_plain b rest ≡ true → item b rest ≡ b ∷ []
plain_item b rest e = rw e refl

pub other_item : (b : ℕ) (rest : List ℕ) → is_plain b rest ≡ false → item b rest ≡ escape b
other_item b rest e = rw e refl

-- an item is put
pub plain_put : (column b : ℕ) (old rest : List ℕ) → (b ≡ 10 → ⊥) → is_plain b rest ≡ true → old ++ placed column (b ∷ []) rest (λ n. encoded_from n rest) ≡ old ++ encoded_from column (b ∷ rest)
plain_put column b old rest other e = ap (λ x. old ++ x) (placed_by column b rest (b ∷ []) other (plain_item b rest e))

pub escape_put : (column b high low : ℕ) (old rest : List ℕ) → (b ≡ 10 → ⊥) → is_plain b rest ≡ false → high ≡ hex_digit (b / 16) → low ≡ hex_digit (b % 16) →
    old ++ placed column (61 ∷ high ∷ low ∷ []) rest (λ n. encoded_from n rest) ≡ old ++ encoded_from column (b ∷ rest)
escape_put column b high low old rest other e eh el = rw (eh, el) (ap (λ x. old ++ x) (placed_by column b rest (escape b) other (other_item b rest e)))

-- all bytes are put
pub all_put : (text bytes : List ℕ) (column i : ℕ) → length bytes ≤ i → text ++ encoded_from column (drop i bytes) ≡ encoded_from 0 bytes → text ≡ encoded_from 0 bytes
unfolding encoded_from
all_put text bytes column i le e =
    let none : drop i bytes ≡ [] = drop_all i bytes le in
    sym (append-nil text) ∙ rw none at e
