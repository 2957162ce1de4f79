-- What fits is the longest front that does.
use Rattle.std.proofs.Common.{◌≡◌, ◌≤◌, ◌<◌, ◌-◌, ℕ, zero, suc, Bool, true, false, List, [], ◌∷◌, length, take, refl, sym, ap, subst, ◌∙◌, arith}
use Rattle.std.specs.Prelude.{nat_le}
use Rattle.std.proofs.lemmas.Bool.Decides.{nat_tests}
use Rattle.line_rows.specs.Columns.{IsLongestFit, columns_in, columns_of, fit}
use Rattle.line_rows.proofs.FittingColumns.{columns_cons, fit_no, fit_none, fit_yes}

nothing_fits : (room : ℕ) → IsLongestFit room [] []
nothing_fits room = record {
  begins = refl;
  fits = omega arith;
  longest = λ n inside within. inside;
}

more_by : (c : ℕ) (text front : List ℕ) (room n : ℕ) → columns_in c ≤ room → IsLongestFit (room - columns_in c) text front
    → n ≤ length (c ∷ text) → columns_of (take n (c ∷ text)) ≤ room → n ≤ length (c ∷ front)
more_by c text front room zero first rest inside within = omega arith
more_by c text front room (suc n) first rest inside within =
    let parts = columns_cons c (take n text) in
    let whole : columns_of (c ∷ take n text) ≤ room = within in
    let shorter : n ≤ length text = omega arith in
    let longest = rest.longest n shorter (omega arith) in
    omega arith

one_more : (c : ℕ) (text front : List ℕ) (room : ℕ) → columns_in c ≤ room → IsLongestFit (room - columns_in c) text front
    → IsLongestFit room (c ∷ text) (c ∷ front)
one_more c text front room first rest = record {
  begins = ap (λ t. c ∷ t) rest.begins ∙ ap (λ n. take n (c ∷ text)) (let e : suc (length front) ≡ length (c ∷ front) = omega arith in e);
  fits = let parts = columns_cons c front in let within = rest.fits in omega arith;
  longest = λ n inside within. more_by c text front room n first rest inside within;
}

none_by : (c : ℕ) (text : List ℕ) (room n : ℕ) → room < columns_in c → columns_of (take n (c ∷ text)) ≤ room → n ≤ 0
none_by c text room zero first within = omega arith
none_by c text room (suc n) first within =
    let parts = columns_cons c (take n text) in
    let whole : columns_of (c ∷ take n text) ≤ room = within in
    absurd (omega arith)

no_more : (c : ℕ) (text : List ℕ) (room : ℕ) → room < columns_in c → IsLongestFit room (c ∷ text) []
no_more c text room first = record {
  begins = refl;
  fits = omega arith;
  longest = λ n inside within. none_by c text room n first within;
}

longest_by : (t : Bool) (c : ℕ) (text : List ℕ) (room : ℕ) → nat_le (columns_in c) room ≡ t → IsLongestFit (room - columns_in c) text (fit (room - columns_in c) text)
    → IsLongestFit room (c ∷ text) (fit room (c ∷ text))
longest_by true c text room e rest =
    let first : columns_in c ≤ room = grind (arith, nat_tests) in
    subst (IsLongestFit room (c ∷ text)) (sym (fit_yes c text room first)) (one_more c text (fit (room - columns_in c) text) room first rest)
longest_by false c text room e rest =
    let first : room < columns_in c = grind (arith, nat_tests) in
    subst (IsLongestFit room (c ∷ text)) (sym (fit_no c text room first)) (no_more c text room first)

-- the longest front that fits
pub longest_fit : (text : List ℕ) (room : ℕ) → IsLongestFit room text (fit room text)
longest_fit [] room = subst (IsLongestFit room []) (sym (fit_none room)) (nothing_fits room)
longest_fit (c ∷ text) room = longest_by (nat_le (columns_in c) room) c text room refl (longest_fit text (room - columns_in c))
