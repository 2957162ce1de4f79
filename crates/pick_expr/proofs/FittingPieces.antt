-- The test and the pieces that fit.
use Rattle.std.proofs.Common.{◌≡◌, ℕ, ◌&&◌, Bool, true, false, List, [], ◌∷◌, ◌++◌, ◌↔◌, refl, sym, ap, ◌∙◌, inl, inr, append_assoc}
use Rattle.std.specs.Bool.{Decides}
use Rattle.std.specs.List.{list_all}
use Rattle.std.proofs.lemmas.Bool.{and_parts, and_from, or_cases, or_left, or_right, false≢true, both_ways, not-true}
use Rattle.pick_expr.specs.declared.atom.Atom.{Atom}
use Rattle.pick_expr.specs.declared.element.Element.{Element}
use Rattle.pick_expr.specs.declared.element.Element.TheVariants.{Once, AnyNumber}
use Rattle.pick_expr.specs.Atoms.{admits}
use Rattle.pick_expr.specs.Finishing.{any_number_by, ends_by, finishes, found_by, is_match}
use Rattle.pick_expr.specs.Fitting.{Fits, Matches, Shape}

-- the line begins with a piece that fits
pub record Starts (elements : List Element) (to_end : Bool) (line : List ℕ) : Type 0 where
  pub piece : List ℕ
  pub behind : List ℕ
  pub split : line ≡ piece ++ behind
  pub fits : Fits elements piece
  pub at_end : to_end ≡ true → behind ≡ []

no_more : (rest : List Element) (a : Atom) (to_end : Bool) (line : List ℕ) → Starts rest to_end line → Starts (AnyNumber a ∷ rest) to_end line
no_more rest a to_end line s = record { piece = s.piece; behind = s.behind; split = s.split; fits = ([], s.piece, refl, refl, s.fits); at_end = s.at_end }

one_more : (rest : List Element) (a : Atom) (to_end : Bool) (b : ℕ) (line : List ℕ) → admits a b ≡ true → Starts (AnyNumber a ∷ rest) to_end line → Starts (AnyNumber a ∷ rest) to_end (b ∷ line)
one_more rest a to_end b line ok s = record {
  piece = b ∷ s.piece;
  behind = s.behind;
  split = ap (λ z. b ∷ z) s.split;
  fits = (b ∷ s.fits.0, s.fits.1, ap (λ z. b ∷ z) s.fits.2, and_from (admits a b) (list_all (admits a) s.fits.0) ok s.fits.3, s.fits.4);
  at_end = s.at_end;
}

many_start : (rest : List Element) (a : Atom) (to_end : Bool) → ((line : List ℕ) → finishes rest to_end line ≡ true → Starts rest to_end line)
    → (line : List ℕ) → any_number_by (admits a) (finishes rest to_end) line ≡ true → Starts (AnyNumber a ∷ rest) to_end line
many_start rest a to_end rest_starts [] h = no_more rest a to_end [] (rest_starts [] h)
many_start rest a to_end rest_starts (b ∷ line) h =
    elim (or_cases (finishes rest to_end (b ∷ line)) (admits a b && any_number_by (admits a) (finishes rest to_end) line) h) [
      | inl here ↦ no_more rest a to_end (b ∷ line) (rest_starts (b ∷ line) here)
      | inr on ↦ (let parts = and_parts (admits a b) (any_number_by (admits a) (finishes rest to_end) line) on in
          one_more rest a to_end b line parts.0 (many_start rest a to_end rest_starts line parts.1))
    ]

-- what the test finds fits
pub starts : (elements : List Element) (to_end : Bool) (line : List ℕ) → finishes elements to_end line ≡ true → Starts elements to_end line
starts [] to_end [] h = record { piece = []; behind = []; split = refl; fits = refl; at_end = λ _. refl }
starts [] to_end (b ∷ line) h = record { piece = []; behind = b ∷ line; split = refl; fits = refl; at_end = λ e. absurd (both_ways to_end (not-true to_end h) e) }
starts (Once a ∷ rest) to_end [] h = absurd (false≢true h)
starts (Once a ∷ rest) to_end (b ∷ line) h =
    let parts = and_parts (admits a b) (finishes rest to_end line) h in
    let s = starts rest to_end line parts.1 in
    record { piece = b ∷ s.piece; behind = s.behind; split = ap (λ z. b ∷ z) s.split; fits = (b, s.piece, refl, parts.0, s.fits); at_end = s.at_end }
starts (AnyNumber a ∷ rest) to_end line h = many_start rest a to_end (starts rest to_end) line h

ended : (to_end : Bool) (behind : List ℕ) → (to_end ≡ true → behind ≡ []) → ends_by to_end behind ≡ true
ended to_end [] at_end = refl
ended true (b ∷ behind) at_end = absurd (cc (at_end refl))
ended false (b ∷ behind) at_end = refl

any_number : (admitted : ℕ → Bool) (rest : List ℕ → Bool) (front back : List ℕ) → list_all admitted front ≡ true → rest back ≡ true → any_number_by admitted rest (front ++ back) ≡ true
any_number admitted rest [] [] all h = h
any_number admitted rest [] (b ∷ back) all h = or_left (rest (b ∷ back)) _ h
any_number admitted rest (b ∷ front) back all h =
    let parts = and_parts (admitted b) (list_all admitted front) all in
    or_right (rest (b ∷ (front ++ back))) _ (and_from (admitted b) (any_number_by admitted rest (front ++ back)) parts.0 (any_number admitted rest front back parts.1 h))

-- what fits the test finds
pub finds : (elements : List Element) (to_end : Bool) (piece behind : List ℕ) → Fits elements piece → (to_end ≡ true → behind ≡ []) → finishes elements to_end (piece ++ behind) ≡ true
finds [] to_end piece behind fits at_end = rw fits (ended to_end behind at_end)
finds (Once a ∷ rest) to_end piece behind (b, back, split, ok, fits) at_end =
    rw split (and_from (admits a b) (finishes rest to_end (back ++ behind)) ok (finds rest to_end back behind fits at_end))
finds (AnyNumber a ∷ rest) to_end piece behind (front, back, split, ok, fits) at_end =
    rw (split, append_assoc) (any_number (admits a) (finishes rest to_end) front (back ++ behind) ok (finds rest to_end back behind fits at_end))

-- the test holds of some end of the line
pub record Somewhere (test : List ℕ → Bool) (line : List ℕ) : Type 0 where
  pub before : List ℕ
  pub back : List ℕ
  pub split : line ≡ before ++ back
  pub holds : test back ≡ true

somewhere : (test : List ℕ → Bool) (line : List ℕ) → found_by test line ≡ true → Somewhere test line
somewhere test [] h = record { before = []; back = []; split = refl; holds = h }
somewhere test (b ∷ line) h =
    elim (or_cases (test (b ∷ line)) (found_by test line) h) [
      | inl here ↦ record { before = []; back = b ∷ line; split = refl; holds = here }
      | inr on ↦ (let s = somewhere test line on in record { before = b ∷ s.before; back = s.back; split = ap (λ z. b ∷ z) s.split; holds = s.holds })
    ]

found : (test : List ℕ → Bool) (before back : List ℕ) → test back ≡ true → found_by test (before ++ back) ≡ true
found test [] [] h = h
found test [] (b ∷ back) h = or_left (test (b ∷ back)) _ h
found test (b ∷ before) back h = or_right (test (b ∷ (before ++ back))) _ (found test before back h)

-- at the line's start
pub matches_start : (elements : List Element) (from_start to_end : Bool) (line : List ℕ) (r : Bool) → from_start ≡ true → r ≡ finishes elements to_end line
    → (r ≡ true) ↔ Matches (record { elements = elements; from_start = from_start; to_end = to_end }) line
matches_start elements from_start to_end line r anchored is_r = (there, back)
  where
    there : r ≡ true → Matches (record { elements = elements; from_start = from_start; to_end = to_end }) line
    there h =
        let s = starts elements to_end line (sym is_r ∙ h) in
        record { before = []; piece = s.piece; behind = s.behind; split = s.split; fits = s.fits; at_start = λ _. refl; at_end = s.at_end }

    back : Matches (record { elements = elements; from_start = from_start; to_end = to_end }) line → r ≡ true
    back m = is_r ∙ ap (finishes elements to_end) (m.split ∙ ap (λ z. z ++ (m.piece ++ m.behind)) (m.at_start anchored)) ∙ finds elements to_end m.piece m.behind m.fits m.at_end

-- and anywhere
pub matches_anywhere : (elements : List Element) (from_start to_end : Bool) (line : List ℕ) (r : Bool) → from_start ≡ false → r ≡ found_by (finishes elements to_end) line
    → (r ≡ true) ↔ Matches (record { elements = elements; from_start = from_start; to_end = to_end }) line
matches_anywhere elements from_start to_end line r free is_r = (there, back)
  where
    there : r ≡ true → Matches (record { elements = elements; from_start = from_start; to_end = to_end }) line
    there h =
        let w = somewhere (finishes elements to_end) line (sym is_r ∙ h) in
        let s = starts elements to_end w.back w.holds in
        record {
          before = w.before;
          piece = s.piece;
          behind = s.behind;
          split = w.split ∙ ap (λ z. w.before ++ z) s.split;
          fits = s.fits;
          at_start = λ e. absurd (both_ways from_start free e);
          at_end = s.at_end;
        }

    back : Matches (record { elements = elements; from_start = from_start; to_end = to_end }) line → r ≡ true
    back m = is_r ∙ ap (found_by (finishes elements to_end)) m.split ∙ found (finishes elements to_end) m.before (m.piece ++ m.behind) (finds elements to_end m.piece m.behind m.fits m.at_end)

pub match_start : (elements : List Element) (from_start to_end : Bool) (line : List ℕ) {r : Bool} → from_start ≡ true → r ≡ finishes elements to_end line
    → r ≡ is_match (record { elements = elements; from_start = from_start; to_end = to_end }) line
match_start elements from_start to_end line anchored e = rw anchored e

pub match_anywhere : (elements : List Element) (from_start to_end : Bool) (line : List ℕ) {r : Bool} → from_start ≡ false → r ≡ found_by (finishes elements to_end) line
    → r ≡ is_match (record { elements = elements; from_start = from_start; to_end = to_end }) line
match_anywhere elements from_start to_end line free e = rw free e

matched_start : (elements : List Element) (from_start to_end : Bool) (line : List ℕ) (t : Bool) → from_start ≡ t
    → (is_match (record { elements = elements; from_start = from_start; to_end = to_end }) line ≡ true) ↔ Matches (record { elements = elements; from_start = from_start; to_end = to_end }) line
matched_start elements from_start to_end line true e = matches_start elements from_start to_end line _ e (rw e refl)
matched_start elements from_start to_end line false e = matches_anywhere elements from_start to_end line _ e (rw e refl)

-- the test is the relation
pub match_decides : (p : Shape) (line : List ℕ) → Decides (is_match p line) (Matches p line)
match_decides p line = matched_start p.elements p.from_start p.to_end line p.from_start refl
