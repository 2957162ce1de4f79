-- Groups of four symbols, as the crate base64 decodes them.
use Rattle.std.proofs.Common.{◌≡◌, ℕ, zero, suc, ◌*◌, ◌/◌, ◌%◌, ◌<◌, Bool, true, false, eqb, ltb, List, [], ◌∷◌, ◌++◌, length, take, map, slice_index, refl, ap, subst, ◌∙◌, arith, append-nil}
use Rattle.std.specs.Prelude.{◌&&◌, ◌||◌, not, Ok, Err}
use Rattle.std.specs.List.{AllPass}
use Rattle.std.proofs.lemmas.Bool.Decides.{nat_tests}
use Rattle.std.proofs.lemmas.List.{length-map, length-take-le}
use Rattle.std.proofs.lemmas.Bool.{and_parts, eqb-true, ltb-true}
use Rattle.base64.specs.Rfc4648.{encode_symbols, padding_len}
use Rattle.base64.specs.Tables.{all_below}
use Rattle.base64.specs.Engines.{standard}
use Rattle.base64.specs.GeneralPurpose.{encode_of, decode_of, IsDecodedInto}
use Rattle.base64.proofs.Tables.{all_below_at}
use Rattle.base64.proofs.EngineFacts.{decode_of-encode_of}
use Rattle.base64.specs.declared.decode.DecodeError.{DecodeError}
use Rattle.mime_codes.specs.Base64.{alphabet, is_symbol, sextet, octets}
use Rattle.mime_codes.proofs.Octets.{AreSextets, groups_back, octets_low, length-octets}

-- a symbol's number is its place in the alphabet
abbrev stands_at_its_place : ℕ → Bool
stands_at_its_place c = not (is_symbol c) || (eqb (slice_index alphabet (sextet c)) c && ltb (sextet c) 64)

each_stands : all_below stands_at_its_place 256 ≡ true
each_stands = refl

stands : (c : ℕ) → is_symbol c ≡ true → stands_at_its_place c ≡ true
stands c e = all_below_at stands_at_its_place 256 c each_stands (grind (arith, nat_tests))

place_by : (s : Bool) (x c y : ℕ) → s ≡ true → (not s || (eqb x c && ltb y 64)) ≡ true → (x ≡ c) × (y < 64)
place_by false x c y e h = cc e
place_by true x c y e h = let both = and_parts (eqb x c) (ltb y 64) h in (eqb-true x c both.0, ltb-true y 64 both.1)

place_of : (c : ℕ) → is_symbol c ≡ true → (slice_index alphabet (sextet c) ≡ c) × (sextet c < 64)
place_of c e = place_by (is_symbol c) (slice_index alphabet (sextet c)) c (sextet c) e (stands c e)

pub symbol_at : (c : ℕ) → is_symbol c ≡ true → slice_index alphabet (sextet c) ≡ c
symbol_at c e = (place_of c e).0

pub sextet_low : (c : ℕ) → is_symbol c ≡ true → sextet c < 64
sextet_low c e = (place_of c e).1

rest_pass : (c : ℕ) (rest : List ℕ) → AllPass is_symbol (c ∷ rest) → AllPass is_symbol rest
rest_pass c rest all k d lt = all (suc k) d (omega arith)

pub are_sextets : (symbols : List ℕ) → AllPass is_symbol symbols → AreSextets (map sextet symbols)
are_sextets [] all i = omega arith
are_sextets (c ∷ rest) all zero = sextet_low c (all 0 0 (omega arith))
are_sextets (c ∷ rest) all (suc i) = are_sextets rest (rest_pass c rest all) i

pub symbols_back : (symbols : List ℕ) → AllPass is_symbol symbols → map (slice_index alphabet) (map sextet symbols) ≡ symbols
symbols_back [] all = refl
symbols_back (c ∷ rest) all = rw (symbol_at c (all 0 0 (omega arith)), symbols_back rest (rest_pass c rest all)) refl

no_padding : (n : ℕ) → n % 3 ≡ 0 → padding_len n ≡ 0
no_padding n e = omega (arith, e)

groups_encoded : (symbols : List ℕ) → AllPass is_symbol symbols → length symbols % 4 ≡ 0 → encode_of standard (octets (map sextet symbols)) ≡ symbols
groups_encoded symbols all whole =
    let size : length (map sextet symbols) ≡ length symbols = length-map symbols sextet in
    let bytes : length (octets (map sextet symbols)) % 3 ≡ 0 = omega (arith, length-octets (map sextet symbols), size, whole) in
    rw (no_padding (length (octets (map sextet symbols))) bytes, append-nil (encode_symbols alphabet (octets (map sextet symbols))))
    (groups_back alphabet (map sextet symbols) (are_sextets symbols all) (omega (arith, size, whole)) ∙ symbols_back symbols all)

pub groups_decoded : (symbols : List ℕ) → AllPass is_symbol symbols → length symbols % 4 ≡ 0 → decode_of standard symbols ≡ Ok (octets (map sextet symbols))
groups_decoded symbols all whole =
    subst (λ s. decode_of standard s ≡ Ok (octets (map sextet symbols))) (groups_encoded symbols all whole)
    (decode_of-encode_of standard (octets (map sextet symbols)) refl (octets_low (map sextet symbols) (are_sextets symbols all)))

pub never_fails : (symbols : List ℕ) (e : DecodeError) → AllPass is_symbol symbols → length symbols % 4 ≡ 0 → decode_of standard symbols ≡ Err e → ⊥
never_fails symbols e all whole fails =
    let ok = groups_decoded symbols all whole in
    cc

pub groups_written : (symbols old new : List ℕ) (n : ℕ) → AllPass is_symbol symbols → length symbols % 4 ≡ 0 → length new ≡ length old → IsDecodedInto standard symbols n old new →
    take (length symbols / 4 * 3) new ≡ octets (map sextet symbols)
groups_written symbols old new n all whole same written =
    let ok = groups_decoded symbols all whole in
    let bytes : take n new ≡ octets (map sextet symbols) = cc (ok, written.0) in
    let size : length (take n new) ≡ n = length-take-le n new (omega (arith, written.2)) in
    let count : length symbols / 4 * 3 ≡ n = omega (arith, size, ap length bytes, length-octets (map sextet symbols), length-map symbols sextet, whole) in
    rw count bytes

pub one_more_passes : (symbols : List ℕ) (c : ℕ) → AllPass is_symbol symbols → is_symbol c ≡ true → AllPass is_symbol (symbols ++ c ∷ [])
one_more_passes [] c all e zero d lt = e
one_more_passes [] c all e (suc k) d lt = absurd (omega arith)
one_more_passes (s ∷ symbols) c all e zero d lt = all zero d (omega arith)
one_more_passes (s ∷ symbols) c all e (suc k) d lt = one_more_passes symbols c (rest_pass s symbols all) e k d (omega arith)
