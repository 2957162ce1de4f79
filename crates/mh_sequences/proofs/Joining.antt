-- Two sets joined stretch by stretch.
use Rattle.std.proofs.Common.{◌≡◌, ℕ, ◌+◌, ◌<◌, ◌≤◌, Bool, true, false, List, [], ◌∷◌, refl, sym, ◌∙◌, ap, arith, ⊎_elim}
use Rattle.std.specs.Prelude.{◌&&◌, ◌||◌, nat_le}
use Rattle.std.proofs.lemmas.Bool.{or_from, cases_lt}
use Rattle.std.proofs.lemmas.Bool.Decides.{nat_tests}
use Rattle.mh_sequences.specs.declared.run.Run.{Run}
use Rattle.mh_sequences.specs.declared.join.Join.{Join}
use Rattle.mh_sequences.specs.declared.join.Join.TheVariants.{Both, Either, FirstAlone, Second}
use Rattle.mh_sequences.specs.Joins.{joins}
use Rattle.mh_sequences.specs.Runs.{AreRuns, AreRunsFrom, inside, has}
use Rattle.mh_sequences.proofs.Removing.{has_below}

joins_none : (how : Join) → joins how false false ≡ false
joins_none Both = refl
joins_none Either = refl
joins_none FirstAlone = refl
joins_none Second = refl

pub above_from : (low : ℕ) (rs : List Run) → AreRunsFrom low rs → (n : ℕ) → 999999 < n → has rs n ≡ false
above_from low [] h n lt = refl
above_from low (r ∷ rs) h n lt =
    let first : inside r n ≡ false = grind (arith, nat_tests) in
    or_from (inside r n) (has rs n) first (above_from (r.to + 2) rs h.3 n lt)

-- below the number the set is the joined one, and from it on it is empty
pub record IsJoinedBelow (how : Join) (a b joined : List Run) (from : ℕ) : Type 0 where
  pub some : 1 ≤ from
  pub within : from ≤ 1000000
  pub same : (n : ℕ) → n < from → has joined n ≡ joins how (has a n) (has b n)
  pub rest : (n : ℕ) → from ≤ n → has joined n ≡ false

module _ (how : Join) (a b : List Run) (ha : AreRuns a) (hb : AreRuns b) where
  nowhere : (n : ℕ) → has a n ≡ false → has b n ≡ false → joins how (has a n) (has b n) ≡ false
  nowhere n x y = (λ i. joins how (x i) (y i)) ∙ joins_none how

  pub start : (joined : List Run) → joined ≡ [] → IsJoinedBelow how a b joined 1
  start joined e = record {
    some = omega arith;
    within = omega arith;
    same = λ n lt. ap (λ l. has l n) e ∙ sym (nowhere n (has_below 1 a ha n (omega arith)) (has_below 1 b hb n (omega arith)));
    rest = λ n le. ap (λ l. has l n) e;
  }

  module _ (joined : List Run) (from to : ℕ) (x y : Bool) (is : IsJoinedBelow how a b joined from) (fits : to ≤ 999999) (some : from ≤ to) (sa : (n : ℕ) → from ≤ n → n ≤ to → has a n ≡ x) (sb : (n : ℕ) → from ≤ n → n ≤ to → has b n ≡ y) where
    here : (n : ℕ) → from ≤ n → n ≤ to → joins how (has a n) (has b n) ≡ joins how x y
    here n le upto i = joins how (sa n le upto i) (sb n le upto i)

    -- the stretch is taken
    pub taken : (next : List Run) → joins how x y ≡ true → ((n : ℕ) → has next n ≡ (nat_le from n && nat_le n to) || has joined n) → IsJoinedBelow how a b next (to + 1)
    taken next t e = record {
      some = omega arith;
      within = omega arith;
      same = λ n lt. ⊎_elim
          (λ before. let out : nat_le from n && nat_le n to ≡ false = grind (arith, nat_tests) in e n ∙ ap (λ z. z || has joined n) out ∙ is.same n before)
          (λ le. let within : nat_le from n && nat_le n to ≡ true = grind (arith, nat_tests) in e n ∙ ap (λ z. z || has joined n) within ∙ sym (here n le (omega arith) ∙ t))
          (cases_lt n from);
      rest = λ n le. let out : nat_le from n && nat_le n to ≡ false = grind (arith, nat_tests) in e n ∙ ap (λ z. z || has joined n) out ∙ is.rest n (omega arith);
    }

    -- or left
    pub left : joins how x y ≡ false → IsJoinedBelow how a b joined (to + 1)
    left f = record {
      some = omega arith;
      within = omega arith;
      same = λ n lt. ⊎_elim
          (λ before. is.same n before)
          (λ le. is.rest n le ∙ sym (here n le (omega arith) ∙ f))
          (cases_lt n from);
      rest = λ n le. is.rest n (omega arith);
    }

  pub whole : (joined : List Run) (from : ℕ) → IsJoinedBelow how a b joined from → 999999 < from → (n : ℕ) → has joined n ≡ joins how (has a n) (has b n)
  whole joined from is all n = ⊎_elim
      (λ lt. is.same n lt)
      (λ le. is.rest n le ∙ sym (nowhere n (above_from 1 a ha n (omega arith)) (above_from 1 b hb n (omega arith))))
      (cases_lt n from)
