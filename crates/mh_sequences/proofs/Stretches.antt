-- Stretches of numbers that a set has, or has not.
use Rattle.std.proofs.Common.{◌≡◌, ℕ, suc, ◌+◌, ◌-◌, ◌<◌, ◌≤◌, true, false, Some, None, List, [], ◌∷◌, ◌++◌, take, drop, refl, sym, ◌∙◌, ap, subst, arith, ⊎_elim}
use Rattle.std.specs.Prelude.{◌||◌, nat_le, nat_lt, slice_get}
use Rattle.std.specs.List.{prefix_len}
use Rattle.std.proofs.lemmas.Bool.{cases_Bool, ltb-true, ltb-false, or_from, or_left, lt-ltb, le-ltb, lt-leb, le-leb}
use Rattle.std.proofs.lemmas.Bool.Decides.{nat_tests}
use Rattle.mh_sequences.specs.declared.run.Run.{Run}
use Rattle.mh_sequences.specs.Stretches.{stretch_end, IsStretch}
use Rattle.mh_sequences.specs.Edits.{removed, front, back}
use Rattle.mh_sequences.specs.Runs.{AreRuns, AreRunsFrom, inside, has}
use Rattle.mh_sequences.proofs.Removing.{has_below, removed_none, removed_here}

-- behind the last run there is no number
pub past_all : (rs : List Run) (p m : ℕ) → p ≤ m → slice_get rs (prefix_len (λ r. nat_lt r.to p) rs) ≡ None → has rs m ≡ false
past_all [] p m le e = refl
past_all (r ∷ rs) p m le e = ⊎_elim
    (λ t. let lt = ltb-true r.to p t in
    let on : 1 + prefix_len (λ s. nat_lt s.to p) rs ≡ suc (prefix_len (λ s. nat_lt s.to p) rs) = omega arith in
    let rest : slice_get rs (prefix_len (λ s. nat_lt s.to p) rs) ≡ None = rw (t, on) at e in
    let first : inside r m ≡ false = grind (arith, nat_tests) in
    or_from (inside r m) (has rs m) first (past_all rs p m le rest))
    (λ f. let k : Some r ≡ None = rw f at e in cc)
    (cases_Bool (nat_lt r.to p))

head_has : (r : Run) (rs : List Run) → AreRunsFrom (r.to + 2) rs → r.from ≤ r.to → r.to ≤ 999999 → (p m : ℕ) → p ≤ r.to → p ≤ m → m ≤ stretch_end r p → has (r ∷ rs) m ≡ nat_le r.from p
head_has r rs h ok top p m upto le to = ⊎_elim
    (λ t. let lt = ltb-true p r.from t in let near : m ≤ r.from - 1 = rw t at to in
    let none : nat_le r.from p ≡ false = grind (arith, nat_tests) in
    has_below (m + 1) (r ∷ rs) (omega arith, ok, top, h) m (omega arith) ∙ sym none)
    (λ f. let ge = ltb-false p r.from f in let near : m ≤ r.to = rw f at to in
    let first : inside r m ≡ true = grind (arith, nat_tests) in
    let some : nat_le r.from p ≡ true = grind (arith, nat_tests) in
    or_left (inside r m) (has rs m) first ∙ sym some)
    (cases_Bool (nat_lt p r.from))

-- what the first run that doesn't end before a number says of the numbers from there on
pub along : (low : ℕ) (rs : List Run) → AreRunsFrom low rs → (p m : ℕ) (q : Run) → slice_get rs (prefix_len (λ r. nat_lt r.to p) rs) ≡ Some q → p ≤ m → m ≤ stretch_end q p → has rs m ≡ nat_le q.from p
along low [] h p m q e le to = cc
along low (r ∷ rs) h p m q e le to = ⊎_elim
    (λ t. let lt = ltb-true r.to p t in
    let on : 1 + prefix_len (λ s. nat_lt s.to p) rs ≡ suc (prefix_len (λ s. nat_lt s.to p) rs) = omega arith in
    let rest : slice_get rs (prefix_len (λ s. nat_lt s.to p) rs) ≡ Some q = rw (t, on) at e in
    let first : inside r m ≡ false = grind (arith, nat_tests) in
    ap (λ b. b || has rs m) first ∙ along (r.to + 2) rs h.3 p m q rest le to)
    (λ f. let k : Some r ≡ Some q = rw f at e in let same : r ≡ q = cc in
    subst (λ z. m ≤ stretch_end z p → has (r ∷ rs) m ≡ nat_le z.from p) same (head_has r rs h.3 h.1 h.2 p m (ltb-false r.to p f) le) to)
    (cases_Bool (nat_lt r.to p))

-- it does not end before the number
pub not_before : (rs : List Run) (p : ℕ) (q : Run) → slice_get rs (prefix_len (λ r. nat_lt r.to p) rs) ≡ Some q → p ≤ q.to
not_before [] p q e = cc
not_before (r ∷ rs) p q e = ⊎_elim
    (λ t. let on : 1 + prefix_len (λ s. nat_lt s.to p) rs ≡ suc (prefix_len (λ s. nat_lt s.to p) rs) = omega arith in let step : prefix_len (λ s. nat_lt s.to p) (r ∷ rs) ≡ suc (prefix_len (λ s. nat_lt s.to p) rs) = rw t on in
    not_before rs p q (subst (λ j. slice_get (r ∷ rs) j ≡ Some q) step e))
    (λ f. let k : Some r ≡ Some q = rw f at e in let same : r.to ≡ q.to = cc in let le = ltb-false r.to p f in omega arith)
    (cases_Bool (nat_lt r.to p))

module _ (rs : List Run) (h : AreRuns rs) (p k : ℕ) (is : k ≡ prefix_len (λ r. nat_lt r.to p) rs) where
  -- the first run that doesn't end before the number begins behind it
  pub gap : (q : Run) (to : ℕ) → slice_get rs k ≡ Some q → p < q.from → q.from ≤ 999999 → to ≡ q.from - 1 → IsStretch rs p (record { all = false; to = to })
  gap q to e lt top last =
      let none : nat_le q.from p ≡ false = lt-leb q.from p lt in
      let at : stretch_end q p ≡ q.from - 1 = rw (lt-ltb p q.from lt) refl in
      record { some = omega arith; within = omega arith; same = λ n le upto. along 1 rs h p n q (ap (slice_get rs) (sym is) ∙ e) le (rw at (omega arith)) ∙ none }

  -- or has it
  pub run : (q : Run) (to : ℕ) → slice_get rs k ≡ Some q → q.from ≤ p → q.to ≤ 999999 → to ≡ q.to → IsStretch rs p (record { all = true; to = to })
  run q to e le top last =
      let some : nat_le q.from p ≡ true = le-leb q.from p le in
      let at : stretch_end q p ≡ q.to = rw (le-ltb p q.from le) refl in
      let ahead = not_before rs p q (ap (slice_get rs) (sym is) ∙ e) in
      record { some = omega arith; within = omega arith; same = λ n low upto. along 1 rs h p n q (ap (slice_get rs) (sym is) ∙ e) low (rw at (omega arith)) ∙ some }

  -- or there is none
  pub end : slice_get rs k ≡ None → p ≤ 999999 → IsStretch rs p (record { all = false; to = 999999 })
  end e top = record { some = top; within = omega arith; same = λ n low upto. past_all rs p n low (ap (slice_get rs) (sym is) ∙ e) }

  pub reaches : (q : Run) → slice_get rs k ≡ Some q → p ≤ q.to
  reaches q e = not_before rs p q (ap (slice_get rs) (sym is) ∙ e)

  -- nothing is to be taken out in a gap, or behind all runs
  pub out_of_gap : (q : Run) → slice_get rs k ≡ Some q → p < q.from → rs ≡ removed p rs
  out_of_gap q e lt =
      let ahead = reaches q e in
      let at : p ≤ stretch_end q p = rw (lt-ltb p q.from lt) (omega arith) in
      sym (removed_none 1 rs h p (along 1 rs h p p q (ap (slice_get rs) (sym is) ∙ e) (omega arith) at ∙ lt-leb q.from p lt))

  pub out_of_none : slice_get rs k ≡ None → rs ≡ removed p rs
  out_of_none e = sym (removed_none 1 rs h p (past_all rs p p (omega arith) (ap (slice_get rs) (sym is) ∙ e)))

  pub out_of_run : (q : Run) → slice_get rs k ≡ Some q → q.from ≤ p → take k rs ++ (front q p ++ (back q p ++ drop (k + 1) rs)) ≡ removed p rs
  out_of_run q e le = sym (removed_here rs p k q is e le (reaches q e))
