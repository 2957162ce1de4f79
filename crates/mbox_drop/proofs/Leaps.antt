-- A leap over a line is as good as its steps.
use Rattle.std.proofs.Common.{◌≡◌, ℕ, zero, suc, ◌+◌, ◌-◌, ◌≤◌, ◌<◌, Bool, true, false, List, [], ◌∷◌, ◌++◌, length, take, drop, get_or, refl, sym, ap, ◌∙◌, subst, append_assoc, arith}
use Rattle.std.specs.Prelude.{◌==◌}
use Rattle.std.proofs.lemmas.Bool.{false≢true}
use Rattle.std.proofs.lemmas.List.{append-nil, drop-drop, take-append-drop, length-take, length-drop, take_rest}
use Rattle.mbox_drop.specs.Leaping.{HasNoEnd, IsLeap}
use Rattle.mbox_drop.specs.Places.{turn, is_middle}
use Rattle.mbox_drop.specs.Readings.{at, read}
use Rattle.mbox_drop.specs.Finding.{found, found_by}
use Rattle.mbox_drop.specs.declared.place.DropState.{DropState}
use Rattle.mbox_drop.specs.declared.place.DropState.TheVariants.{First, Lost, Separator, Start, Return, Middle, Blank}
use Rattle.mbox_drop.specs.declared.place.Turn.TheVariants.{Joins}
use Rattle.mbox_drop.specs.declared.find.Found.TheVariants.{End}

not_end : (t : Bool) → (t ≡ true → ⊥) → t ≡ false
not_end true g = absurd (g refl)
not_end false g = refl

-- from what holds of each byte
pub no_end_at : (n : ℕ) (xs : List ℕ) → n ≤ length xs → ((k : ℕ) → k < n → (get_or xs k 0 == 10) ≡ true → ⊥) → HasNoEnd (take n xs)
no_end_at zero xs h f = tt
no_end_at (suc n) [] h f = tt
no_end_at (suc n) (x ∷ xs) h f = (not_end (x == 10) (f 0 (omega arith)), no_end_at n xs (omega arith) (λ k l. f (suc k) (omega arith)))

pub is_middle-place : (place : DropState) → is_middle place ≡ true → place ≡ Middle
is_middle-place (First m) h = cc
is_middle-place Lost h = cc
is_middle-place Separator h = cc
is_middle-place Start h = cc
is_middle-place Return h = cc
is_middle-place Middle h = refl
is_middle-place (Blank m) h = cc

found_plain : (xs ys : List ℕ) (base before i : ℕ) → HasNoEnd xs → found base (End Middle before) i (xs ++ ys) ≡ found base (End Middle before) (i + length xs) ys
unfolding found
found_plain [] ys base before i u = ap (λ n. found base (End Middle before) n ys) (omega arith)
found_plain (x ∷ xs) ys base before i u =
    let e : turn Middle x ≡ Joins Middle = rw u.0 refl in
    ap (λ t. found base (found_by base before i t) (i + 1) (xs ++ ys)) e ∙ found_plain xs ys base before (i + 1) u.1
    ∙ ap (λ n. found base (End Middle before) n ys) (omega arith)

leap_size : (place : DropState) (bytes : List ℕ) (from to : ℕ) → IsLeap place bytes from to → from + length (take (to - from) (drop from bytes)) ≡ to
leap_size place bytes from to l = omega (arith, l.low, l.high, length-take (to - from) (drop from bytes), length-drop from bytes)

leap_rest : (place : DropState) (bytes : List ℕ) (from to : ℕ) → IsLeap place bytes from to → drop (to - from) (drop from bytes) ≡ drop to bytes
leap_rest place bytes from to l = let e : from + (to - from) ≡ to = omega (arith, l.low) in drop-drop (to - from) from bytes ∙ ap (λ n. drop n bytes) e

found_middle : (base before from to : ℕ) (bytes : List ℕ) → IsLeap Middle bytes from to →
    found base (End Middle before) to (drop to bytes) ≡ found base (End Middle before) from (drop from bytes)
found_middle base before from to bytes l =
    let xs : List ℕ = take (to - from) (drop from bytes) in
    let ys : List ℕ = drop (to - from) (drop from bytes) in
    sym (ap (λ x. found base (End Middle before) from x) (sym (take-append-drop (to - from) (drop from bytes)))
    ∙ found_plain xs ys base before from l.plain
    ∙ ap (λ n. found base (End Middle before) n ys) (leap_size Middle bytes from to l)
    ∙ ap (λ x. found base (End Middle before) to x) (leap_rest Middle bytes from to l))

found_at : (t : Bool) (base before from to : ℕ) (place : DropState) (bytes : List ℕ) → is_middle place ≡ t → IsLeap place bytes from to →
    found base (End place before) to (drop to bytes) ≡ found base (End place before) from (drop from bytes)
found_at true base before from to place bytes m l =
    let e : place ≡ Middle = is_middle-place place m in
    subst (λ p. found base (End p before) to (drop to bytes) ≡ found base (End p before) from (drop from bytes)) (sym e)
    (found_middle base before from to bytes (subst (λ p. IsLeap p bytes from to) e l))
found_at false base before from to place bytes m l = ap (λ n. found base (End place before) n (drop n bytes)) (l.still m)

-- a search after a leap
pub found_leap : (base before from to : ℕ) (place : DropState) (bytes : List ℕ) → IsLeap place bytes from to →
    found base (End place before) to (drop to bytes) ≡ found base (End place before) from (drop from bytes)
found_leap base before from to place bytes l = found_at (is_middle place) base before from to place bytes refl l

pub read_plain : (xs : List ℕ) (done : List (List ℕ)) (hand body : List ℕ) → HasNoEnd xs → read (at done hand body Middle) xs ≡ at done (hand ++ xs) body Middle
unfolding read
read_plain [] done hand body u = ap (λ x. at done x body Middle) (sym (append-nil hand))
read_plain (x ∷ xs) done hand body u = rw u.0 (read_plain xs done (hand ++ x ∷ []) body u.1 ∙ ap (λ y. at done y body Middle) (append_assoc hand (x ∷ []) xs))

-- what a search for LF shows
pub leap_over : (place : DropState) (bytes : List ℕ) (from count : ℕ) → is_middle place ≡ true → from + count ≤ length bytes →
    ((k : ℕ) → 0 ≤ k → k < count → (get_or (take (length bytes - from) (drop from bytes)) k 0 == 10) ≡ true → ⊥) → IsLeap place bytes from (from + count)
leap_over place bytes from count m h f =
    let n : (from + count) - from ≡ count = omega arith in
    let size : count ≤ length (drop from bytes) = omega (arith, length-drop from bytes) in
    let plain : HasNoEnd (take count (drop from bytes)) =
    no_end_at count (drop from bytes) size (λ k l e. f k (omega arith) l (subst (λ x. (get_or x k 0 == 10) ≡ true) (sym (take_rest bytes from)) e)) in
    record {
      low = omega arith;
      high = h;
      plain = subst (λ x. HasNoEnd (take x (drop from bytes))) (sym n) plain;
      still = λ e. absurd (false≢true (sym e ∙ m));
    }
