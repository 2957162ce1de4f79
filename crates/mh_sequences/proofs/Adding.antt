-- A run put into runs.
use Rattle.std.proofs.Common.{◌≡◌, ℕ, zero, suc, ◌+◌, ◌-◌, ◌<◌, ◌≤◌, false, List, [], ◌∷◌, ◌++◌, length, take, drop, refl, sym, ◌∙◌, ap, subst, zero-add, arith, get_or, drop-cons, add-one, ⊎_elim}
use Rattle.std.proofs.Math.Seq.{drop-length}
use Rattle.std.specs.Prelude.{◌||◌, nat_lt}
use Rattle.std.specs.List.{prefix_len}
use Rattle.std.proofs.lemmas.Bool.{cases_Bool, ltb-true, ltb-false, lt-ltb, le-ltb}
use Rattle.std.proofs.lemmas.Bool.Decides.{nat_tests}
use Rattle.mh_sequences.specs.declared.run.Run.{Run}
use Rattle.mh_sequences.specs.Edits.{hull, grown, added}
use Rattle.mh_sequences.specs.Runs.{AreRuns, AreRunsFrom, inside, has}
use Rattle.mh_sequences.proofs.Bools.{or_swap, or_group, choose}

-- the first run does not end before this one could touch it
abbrev Reaches : Run → List Run → Type 0
Reaches a [] = Unit {0}
Reaches a (r ∷ rs) = a.from ≤ r.to + 1

reaches_next : (a r : Run) (rs : List Run) → a.from ≤ r.to + 1 → AreRunsFrom (r.to + 2) rs → Reaches (hull a r) rs
reaches_next a r [] h k = tt
reaches_next a r (s ∷ rs) h k = omega arith

hull_inside : (a r : Run) → a.from ≤ a.to → r.from ≤ r.to → a.from ≤ r.to + 1 → r.from ≤ a.to + 1 → (n : ℕ) → inside (hull a r) n ≡ inside a n || inside r n
hull_inside a r x y z w n = grind (arith, nat_tests)

grown_has : (low : ℕ) (a : Run) (rs : List Run) → a.from ≤ a.to → AreRunsFrom low rs → Reaches a rs → (n : ℕ) → has (grown a rs) n ≡ inside a n || has rs n
grown_has low a [] ok h reach n = refl
grown_has low a (r ∷ rs) ok h reach n =
    choose (λ l. has l n ≡ inside a n || has (r ∷ rs) n) (nat_lt (a.to + 1) r.from) (a ∷ r ∷ rs) (grown (hull a r) rs)
    (λ e. refl)
    (λ e. let near = ltb-false (a.to + 1) r.from e in
    grown_has (r.to + 2) (hull a r) rs (omega arith) h.3 (reaches_next a r rs reach h.3) n
    ∙ ap (λ b. b || has rs n) (hull_inside a r ok h.1 reach near n)
    ∙ or_group (inside a n) (inside r n) (has rs n))

-- a lower bound holds as well
pub weaker : (low high : ℕ) (rs : List Run) → low ≤ high → AreRunsFrom high rs → AreRunsFrom low rs
weaker low high [] le h = tt
weaker low high (r ∷ rs) le h = (omega arith, h.1, h.2, h.3)

grown_runs : (low : ℕ) (a : Run) (rs : List Run) → low ≤ a.from → a.from ≤ a.to → a.to ≤ 999999 → AreRunsFrom low rs → AreRunsFrom low (grown a rs)
grown_runs low a [] x y z h = (x, y, z, tt)
grown_runs low a (r ∷ rs) x y z h =
    choose (λ l. AreRunsFrom low l) (nat_lt (a.to + 1) r.from) (a ∷ r ∷ rs) (grown (hull a r) rs)
    (λ e. let far = ltb-true (a.to + 1) r.from e in (x, y, z, (omega arith, h.1, h.2, h.3)))
    (λ e. grown_runs low (hull a r) rs (omega arith) (omega arith) (omega arith) (weaker low (r.to + 2) rs (omega arith) h.3))

pub added_runs : (low : ℕ) (a : Run) (rs : List Run) → low ≤ a.from → a.from ≤ a.to → a.to ≤ 999999 → AreRunsFrom low rs → AreRunsFrom low (added a rs)
added_runs low a [] x y z h = (x, y, z, tt)
added_runs low a (r ∷ rs) x y z h =
    choose (λ l. AreRunsFrom low l) (nat_lt r.to (a.from - 1)) (r ∷ added a rs) (grown a (r ∷ rs))
    (λ e. let far = ltb-true r.to (a.from - 1) e in (h.0, h.1, h.2, added_runs (r.to + 2) a rs (omega arith) y z h.3))
    (λ e. grown_runs low a (r ∷ rs) x y z h)

pub added_has : (low : ℕ) (a : Run) (rs : List Run) → a.from ≤ a.to → AreRunsFrom low rs → (n : ℕ) → has (added a rs) n ≡ inside a n || has rs n
added_has low a [] ok h n = refl
added_has low a (r ∷ rs) ok h n =
    choose (λ l. has l n ≡ inside a n || has (r ∷ rs) n) (nat_lt r.to (a.from - 1)) (r ∷ added a rs) (grown a (r ∷ rs))
    (λ e. ap (λ b. inside r n || b) (added_has (r.to + 2) a rs ok h.3 n) ∙ or_swap (inside r n) (inside a n) (has rs n))
    (λ e. let near = ltb-false r.to (a.from - 1) e in grown_has low a (r ∷ rs) ok h (omega arith) n)

-- the runs before it stay
pub added_split : (a : Run) (rs : List Run) → added a rs ≡ take (prefix_len (λ r. nat_lt r.to (a.from - 1)) rs) rs ++ grown a (drop (prefix_len (λ r. nat_lt r.to (a.from - 1)) rs) rs)
added_split a [] = refl
added_split a (r ∷ rs) = ⊎_elim
    (λ e. let on : 1 + prefix_len (λ s. nat_lt s.to (a.from - 1)) rs ≡ suc (prefix_len (λ s. nat_lt s.to (a.from - 1)) rs) = omega arith in
    rw e (rw on (ap (λ l. r ∷ l) (added_split a rs))))
    (λ e. rw e refl)
    (cases_Bool (nat_lt r.to (a.from - 1)))

pub added_front : (a : Run) (rs : List Run) → take (prefix_len (λ r. nat_lt r.to (a.from - 1)) rs) (added a rs) ≡ take (prefix_len (λ r. nat_lt r.to (a.from - 1)) rs) rs
added_front a [] = refl
added_front a (r ∷ rs) = ⊎_elim
    (λ e. let on : 1 + prefix_len (λ s. nat_lt s.to (a.from - 1)) rs ≡ suc (prefix_len (λ s. nat_lt s.to (a.from - 1)) rs) = omega arith in
    rw e (rw on (ap (λ l. r ∷ l) (added_front a rs))))
    (λ e. rw e refl)
    (cases_Bool (nat_lt r.to (a.from - 1)))

-- one more run is reached
pub grow_more : (a r : Run) (rs : List Run) (i : ℕ) → i < length rs → r ≡ get_or rs i r → r.from ≤ a.to + 1 → grown (hull a r) (drop (i + 1) rs) ≡ grown a (drop i rs)
grow_more a r rs i lt is near =
    let far : nat_lt (a.to + 1) r.from ≡ false = le-ltb (a.to + 1) r.from near in
    sym (ap (grown a) (drop-cons rs i r lt ∙ ap (λ x. x ∷ drop (suc i) rs) (sym is)) ∙ rw far (rw add-one refl))

-- or none
pub grow_stop : (a r : Run) (rs : List Run) (i : ℕ) → i < length rs → r ≡ get_or rs i r → a.to + 1 < r.from → grown a (drop i rs) ≡ a ∷ drop i rs
grow_stop a r rs i lt is far =
    let at : drop i rs ≡ r ∷ drop (suc i) rs = drop-cons rs i r lt ∙ ap (λ x. x ∷ drop (suc i) rs) (sym is) in
    ap (grown a) at ∙ rw (lt-ltb (a.to + 1) r.from far) (ap (λ l. a ∷ l) (sym at))

pub grow_end : (a : Run) (rs : List Run) → grown a (drop (length rs) rs) ≡ a ∷ drop (length rs) rs
grow_end a rs = rw drop-length refl

nothing : (k : ℕ) → drop {A = Run} k [] ≡ []
nothing zero = refl
nothing (suc k) = refl

drop_drop : (i j : ℕ) (xs : List Run) → drop j (drop i xs) ≡ drop (i + j) xs
drop_drop zero j xs = ap (λ k. drop k xs) (sym (zero-add j))
drop_drop (suc i) j [] = nothing j ∙ sym (nothing (suc i + j))
drop_drop (suc i) j (x ∷ xs) = drop_drop i j xs ∙ ap (λ k. drop k (x ∷ xs)) (later i j)
  where
    later : (i j : ℕ) → suc (i + j) ≡ suc i + j
    later i j = omega arith

-- all of it
pub placed : (a whole : Run) (rs : List Run) (k count : ℕ) → k ≡ prefix_len (λ r. nat_lt r.to (a.from - 1)) rs → grown a (drop k rs) ≡ whole ∷ drop count (drop k rs) → take k rs ++ (whole ∷ drop (k + count) rs) ≡ added a rs
placed a whole rs k count is e =
    ap (λ l. take k rs ++ (whole ∷ l)) (sym (drop_drop k count rs))
    ∙ ap (λ l. take k rs ++ l) (sym e)
    ∙ ap (λ j. take j rs ++ grown a (drop j rs)) is
    ∙ sym (added_split a rs)

pub placed_runs : (a whole : Run) (rs : List Run) (k count : ℕ) → AreRuns rs → 1 ≤ a.from → a.from ≤ a.to → a.to ≤ 999999 → k ≡ prefix_len (λ r. nat_lt r.to (a.from - 1)) rs → grown a (drop k rs) ≡ whole ∷ drop count (drop k rs) → AreRuns (take k rs ++ (whole ∷ drop (k + count) rs))
placed_runs a whole rs k count h x y z is e = subst AreRuns (sym (placed a whole rs k count is e)) (added_runs 1 a rs x y z h)
