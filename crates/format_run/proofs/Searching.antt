-- A piece of a text.
use Rattle.std.proofs.Common.{◌≡◌, ◌+◌, ℕ, zero, suc, Bool, true, false, List, [], ◌∷◌, length, get_or, take, refl, sym, ap, ◌∙◌, arith}
use Rattle.std.specs.Prelude.{Option, Some, None, is_some, ◌&&◌, ◌||◌}
use Rattle.std.proofs.lemmas.List.{length-take, get_or-take}
use Rattle.std.proofs.lemmas.Slice.Eq.{bytes_eq-Decides}
use Rattle.memchr.specs.Find.{FindsNeedle, OccursAt}
use Rattle.memchr.proofs.lemmas.MatchLemmas.{occurs_at-true}
use Rattle.format_run.specs.Texts.{begins, stands_in}

and_right : (a b : Bool) → (a && b) ≡ true → b ≡ true
and_right true b e = e
and_right false b e = absurd (cc)

or_left : (a b : Bool) → a ≡ true → (a || b) ≡ true
or_left a b e = rw e refl

or_right : (a b : Bool) → b ≡ true → (a || b) ≡ true
or_right true b e = refl
or_right false b e = e

begins_there : (text piece : List ℕ) → begins text piece ≡ true → OccursAt text piece 0
begins_there text piece e =
    let same = (bytes_eq-Decides (take (length piece) text) piece).0 e in
    record {
      fits = omega (arith, length-take (length piece) text, ap length same);
      reads = λ j h. ap (λ n. get_or text n 0) (omega arith) ∙ sym (get_or-take (length piece) text j 0 h) ∙ ap (λ xs. get_or xs j 0) same;
    }

there_begins : (text piece : List ℕ) → OccursAt text piece 0 → begins text piece ≡ true
there_begins text piece o = and_right _ (begins text piece) (occurs_at-true text piece 0 o)

further : (c : ℕ) (text piece : List ℕ) (k : ℕ) → OccursAt text piece k → OccursAt (c ∷ text) piece (suc k)
further c text piece k o = record {
  fits = let f = o.fits in omega arith;
  reads = λ j h. ap (λ n. get_or (c ∷ text) n 0) (let e : suc k + j ≡ suc (k + j) = omega arith in e) ∙ o.reads j h;
}

nearer : (c : ℕ) (text piece : List ℕ) (k : ℕ) → OccursAt (c ∷ text) piece (suc k) → OccursAt text piece k
nearer c text piece k o = record {
  fits = let f = o.fits in omega arith;
  reads = λ j h. ap (λ n. get_or (c ∷ text) n 0) (let e : suc (k + j) ≡ suc k + j = omega arith in e) ∙ o.reads j h;
}

in_nothing : (piece : List ℕ) (k : ℕ) → OccursAt [] piece k → OccursAt [] piece 0
in_nothing piece k o = record {
  fits = let f = o.fits in omega arith;
  reads = λ j h. let f = o.fits in absurd (omega arith);
}

stands : (piece text : List ℕ) (k : ℕ) → OccursAt text piece k → stands_in piece text ≡ true
stands piece [] k o = there_begins [] piece (in_nothing piece k o)
stands piece (c ∷ text) zero o = or_left (begins (c ∷ text) piece) (stands_in piece text) (there_begins (c ∷ text) piece o)
stands piece (c ∷ text) (suc k) o = or_right (begins (c ∷ text) piece) (stands_in piece text) (stands piece text k (nearer c text piece k o))

abbrev Somewhere : List ℕ → List ℕ → Type 0
Somewhere piece text = (k : ℕ) × OccursAt text piece k

place_by : (t : Bool) (c : ℕ) (text piece : List ℕ) → begins (c ∷ text) piece ≡ t → (t || stands_in piece text) ≡ true
    → (stands_in piece text ≡ true → Somewhere piece text) → Somewhere piece (c ∷ text)
place_by true c text piece e h more = (0, begins_there (c ∷ text) piece e)
place_by false c text piece e h more = let there = more h in (suc there.0, further c text piece there.0 there.1)

place : (piece text : List ℕ) → stands_in piece text ≡ true → Somewhere piece text
place piece [] e = (0, begins_there [] piece e)
place piece (c ∷ text) e = place_by (begins (c ∷ text) piece) c text piece refl e (place piece text)

none_by : (t : Bool) (piece text : List ℕ) → stands_in piece text ≡ t → (Somewhere piece text → ⊥) → false ≡ stands_in piece text
none_by true piece text e h = absurd (h (place piece text e))
none_by false piece text e h = sym e

-- a search finds it where it stands somewhere
pub found : (piece text : List ℕ) (r : Option ℕ) → FindsNeedle text piece 0 r → is_some r ≡ stands_in piece text
found piece text None h = none_by (stands_in piece text) piece text refl (λ there. let f = there.1.fits in h there.0 (omega arith) (omega arith) there.1)
found piece text (Some k) h = sym (stands piece text k h.1)
