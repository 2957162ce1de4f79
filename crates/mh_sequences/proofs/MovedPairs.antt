-- Pairs that move numbers of runs.
use Rattle.std.proofs.Common.{◌≡◌, ℕ, suc, ◌+◌, ◌-◌, ◌<◌, ◌≤◌, Bool, true, false, List, [], ◌∷◌, length, get_or, take, drop, refl, sym, ◌∙◌, ap, arith, add-one, drop-cons}
use Rattle.std.specs.Prelude.{not, ◌&&◌, ◌||◌, ◌==◌, nat_lt, if◌then◌else◌}
use Rattle.std.specs.List.{list_any, prefix_len}
use Rattle.std.specs.List.Sorted.{IsPermutation}
use Rattle.std.proofs.lemmas.Bool.{ltb-true, ltb-false}
use Rattle.std.proofs.lemmas.Bool.Decides.{nat_tests}
use Rattle.std.proofs.lemmas.List.Sorted.{list_any-IsPermutation}
use Rattle.mh_sequences.specs.declared.run.Run.{Run}
use Rattle.mh_sequences.specs.declared.mark.Pair.{Pair}
use Rattle.mh_sequences.specs.Changes.{IsAllChanged}
use Rattle.mh_sequences.specs.Marks.{moved}
use Rattle.mh_sequences.specs.PairOrder.{IsInOrder}
use Rattle.mh_sequences.specs.Runs.{has, inside}
use Rattle.mh_sequences.specs.Sequences.{Sequence}
use Rattle.mh_sequences.proofs.Bools.{or_group, or_swap, or_nothing}
use Rattle.mh_sequences.proofs.Piling.{past}

nothing : (b : Bool) → b && false ≡ false
nothing true = refl
nothing false = refl

everything : (b : Bool) → b && true ≡ b
everything true = refl
everything false = refl

-- none moves a number below this one, and their numbers ascend
abbrev Ascend : ℕ → List Pair → Type 0
Ascend low [] = Unit {0}
Ascend low (p ∷ ps) = (low ≤ p.from) × Ascend p.from ps

ascend : (low : ℕ) (ps : List Pair) → IsInOrder ps → ((k : ℕ) (d : Pair) → k < length ps → low ≤ (get_or ps k d).from) → Ascend low ps
ascend low [] rise above = tt
ascend low (p ∷ ps) rise above = (
  above 0 p (omega arith),
  ascend p.from ps (λ i j d le lt. rise (suc i) (suc j) d (omega arith) (omega arith)) (λ k d lt. rise 0 (suc k) d (omega arith) (omega arith)),
)

below_outside : (r : Run) (m : ℕ) → m < r.from → inside r m ≡ false
below_outside r m lt = grind (arith, nat_tests)

above_outside : (r : Run) (m : ℕ) → r.to < m → inside r m ≡ false
above_outside r m lt = grind (arith, nat_tests)

within : (r : Run) (m : ℕ) → r.from ≤ m → m ≤ r.to → inside r m ≡ true
within r m ge le = grind (arith, nat_tests)

next : (i : ℕ) → 1 + i ≡ suc i
next i = omega arith

module _ (q : Pair → Bool) (r : Run) where
  -- a pair whose number is outside counts for nothing
  skipped : (p : Pair) (ps : List Pair) → inside r p.from ≡ false → list_any (λ x. q x && inside r x.from) (p ∷ ps) ≡ list_any (λ x. q x && inside r x.from) ps
  skipped p ps out = ap (λ b. (q p && b) || list_any (λ x. q x && inside r x.from) ps) out ∙ ap (λ b. b || list_any (λ x. q x && inside r x.from) ps) (nothing (q p))

  none_behind : (low : ℕ) (ps : List Pair) → Ascend low ps → r.to + 1 ≤ low → list_any (λ x. q x && inside r x.from) ps ≡ false
  none_behind low [] up le = refl
  none_behind low (p ∷ ps) up le = let first = up.0 in skipped p ps (above_outside r p.from (omega arith)) ∙ none_behind p.from ps up.1 (omega arith)

  up_to : (low : ℕ) (ps : List Pair) → Ascend low ps → r.from ≤ low → list_any (λ x. q x && inside r x.from) ps ≡ list_any q (take (prefix_len (λ (x : Pair). nat_lt x.from (r.to + 1)) ps) ps)
  up_to low [] up le = refl
  up_to low (p ∷ ps) up le = let first = up.0 in by (up_to p.from ps up.1 (omega arith)) (nat_lt p.from (r.to + 1)) refl
    where
      count : ℕ
      count = prefix_len (λ (x : Pair). nat_lt x.from (r.to + 1)) ps

      by : list_any (λ x. q x && inside r x.from) ps ≡ list_any q (take count ps) → (b : Bool) → nat_lt p.from (r.to + 1) ≡ b → list_any (λ x. q x && inside r x.from) (p ∷ ps) ≡ list_any q (take (if b then 1 + count else 0) (p ∷ ps))
      by ih true e =
          let lt = ltb-true p.from (r.to + 1) e in
          let first = up.0 in
          ap (λ b. (q p && b) || list_any (λ x. q x && inside r x.from) ps) (within r p.from (omega arith) (omega arith))
          ∙ ap (λ b. b || list_any (λ x. q x && inside r x.from) ps) (everything (q p))
          ∙ ap (λ b. q p || b) ih
          ∙ ap (λ k. list_any q (take k (p ∷ ps))) (sym (next count))
      by ih false e = let ge = ltb-false p.from (r.to + 1) e in none_behind p.from (p ∷ ps) (omega arith, up.1) (omega arith)

  between : (low : ℕ) (ps : List Pair) → Ascend low ps → r.from ≤ r.to → list_any (λ x. q x && inside r x.from) ps ≡ list_any q (take (prefix_len (λ (x : Pair). nat_lt x.from (r.to + 1)) ps - prefix_len (λ (x : Pair). nat_lt x.from r.from) ps) (drop (prefix_len (λ (x : Pair). nat_lt x.from r.from) ps) ps))
  between low [] up le = refl
  between low (p ∷ ps) up le = by (between p.from ps up.1 le) (nat_lt p.from r.from) refl
    where
      start : ℕ
      start = prefix_len (λ (x : Pair). nat_lt x.from r.from) ps

      end : ℕ
      end = prefix_len (λ (x : Pair). nat_lt x.from (r.to + 1)) ps

      less : (i j : ℕ) → (1 + j) - (1 + i) ≡ j - i
      less i j = omega arith

      all : (j : ℕ) → j ≡ j - 0
      all j = omega arith

      by : list_any (λ x. q x && inside r x.from) ps ≡ list_any q (take (end - start) (drop start ps)) → (b : Bool) → nat_lt p.from r.from ≡ b → list_any (λ x. q x && inside r x.from) (p ∷ ps) ≡ list_any q (take (prefix_len (λ (x : Pair). nat_lt x.from (r.to + 1)) (p ∷ ps) - (if b then 1 + start else 0)) (drop (if b then 1 + start else 0) (p ∷ ps)))
      by ih true e =
          let lt = ltb-true p.from r.from e in
          let also : nat_lt p.from (r.to + 1) ≡ true = grind (arith, nat_tests) in
          skipped p ps (below_outside r p.from (omega arith))
          ∙ ih
          ∙ ap (λ k. list_any q (take k (drop start ps))) (sym (less start end))
          ∙ ap (λ k. list_any q (take (1 + end - (1 + start)) (drop k (p ∷ ps)))) (sym (next start))
          ∙ ap (λ b. list_any q (take ((if b then 1 + end else 0) - (1 + start)) (drop (1 + start) (p ∷ ps)))) (sym also)
      by ih false e =
          let ge = ltb-false p.from r.from e in
          up_to p.from (p ∷ ps) (omega arith, up.1) (omega arith)
          ∙ ap (λ k. list_any q (take k (p ∷ ps))) (all (prefix_len (λ (x : Pair). nat_lt x.from (r.to + 1)) (p ∷ ps)))

-- of pairs in order those that move a number of a run stand side by side
pub moving_between : (r : Run) (ps hits : List Pair) (from to start end : ℕ) → IsInOrder ps → r.from ≤ r.to → from ≡ r.from → to ≡ r.to → start ≡ prefix_len (λ (p : Pair). nat_lt p.from from) ps → end ≡ prefix_len (λ (p : Pair). nat_lt p.from (to + 1)) ps → hits ≡ take (end - start) (drop start ps) → (n : ℕ) → list_any (λ p. n == p.to) hits ≡ list_any (λ p. n == p.to && inside r p.from) ps
moving_between r ps hits from to start end order le low high first last is n =
    ap (list_any (λ p. n == p.to)) is
    ∙ (λ k. list_any (λ p. n == p.to) (take (last k - first k) (drop (first k) ps)))
    ∙ (λ k. list_any (λ p. n == p.to) (take (prefix_len (λ (p : Pair). nat_lt p.from (high k + 1)) ps - prefix_len (λ (p : Pair). nat_lt p.from (low k)) ps) (drop (prefix_len (λ (p : Pair). nat_lt p.from (low k)) ps) ps)))
    ∙ sym (between (λ p. n == p.to) r 0 ps (ascend 0 ps order (λ k d lt. omega arith)) le)

prefix_rises : (a b : ℕ) → a ≤ b → (ps : List Pair) → prefix_len (λ (p : Pair). nat_lt p.from a) ps ≤ prefix_len (λ (p : Pair). nat_lt p.from b) ps
prefix_rises a b le [] = omega arith
prefix_rises a b le (p ∷ ps) = by (prefix_rises a b le ps) (nat_lt p.from a) refl (nat_lt p.from b) refl
  where
    by : prefix_len (λ (p : Pair). nat_lt p.from a) ps ≤ prefix_len (λ (p : Pair). nat_lt p.from b) ps → (c : Bool) → nat_lt p.from a ≡ c → (d : Bool) → nat_lt p.from b ≡ d → (if c then 1 + prefix_len (λ (p : Pair). nat_lt p.from a) ps else 0) ≤ (if d then 1 + prefix_len (λ (p : Pair). nat_lt p.from b) ps else 0)
    by ih true e true f = omega arith
    by ih true e false f = let lt = ltb-true p.from a e in let ge = ltb-false p.from b f in absurd (omega arith)
    by ih false e true f = omega arith
    by ih false e false f = omega arith

-- and end where they begin or later
pub moving_ordered : (ps : List Pair) (from to start end : ℕ) → from ≤ to → start ≡ prefix_len (λ (p : Pair). nat_lt p.from from) ps → end ≡ prefix_len (λ (p : Pair). nat_lt p.from (to + 1)) ps → start ≤ end
moving_ordered ps from to start end le first last = let rises = prefix_rises from (to + 1) (omega arith) ps in omega arith

none_of_none : (q : Pair → Bool) (ps : List Pair) → list_any (λ p. q p && false) ps ≡ false
none_of_none q [] = refl
none_of_none q (p ∷ ps) = ap (λ b. b || list_any (λ x. q x && false) ps) (nothing (q p)) ∙ none_of_none q ps

shared : (q a b y z : Bool) → (q && (a || b)) || (y || z) ≡ ((q && a) || y) || ((q && b) || z)
shared true true b y z = refl
shared true false b y z = or_swap b y z
shared false a b y z = refl

-- pairs that move a number of a run or of others
any_shared : (q : Pair → Bool) (r : Run) (rs : List Run) (ps : List Pair) → list_any (λ p. q p && has (r ∷ rs) p.from) ps ≡ list_any (λ p. q p && inside r p.from) ps || list_any (λ p. q p && has rs p.from) ps
any_shared q r rs [] = refl
any_shared q r rs (p ∷ ps) =
    ap (λ b. (q p && (inside r p.from || has rs p.from)) || b) (any_shared q r rs ps)
    ∙ shared (q p) (inside r p.from) (has rs p.from) (list_any (λ x. q x && inside r x.from) ps) (list_any (λ x. q x && has rs x.from) ps)

-- with the new numbers of what is left, the runs have the new numbers of all
pub record AreTargetsSoFar (ps : List Pair) (all now rest : List Run) : Type 0 where
  pub same : (n : ℕ) → has now n || list_any (λ p. n == p.to && has rest p.from) ps ≡ list_any (λ p. n == p.to && has all p.from) ps

pub targets_begun : (ps : List Pair) (all now : List Run) → now ≡ [] → AreTargetsSoFar ps all now all
targets_begun ps all now e = record { same = λ n. ap (λ l. has l n || list_any (λ p. n == p.to && has all p.from) ps) e }

pub targets_more : (ps : List Pair) (all now new : List Run) (i : ℕ) (r : Run) → i < length all → r ≡ get_or all i r → ((n : ℕ) → has new n ≡ list_any (λ p. n == p.to && inside r p.from) ps || has now n) → AreTargetsSoFar ps all now (drop i all) → AreTargetsSoFar ps all new (drop (i + 1) all)
targets_more ps all now new i r lt is put was =
    let at : drop i all ≡ r ∷ drop (suc i) all = drop-cons all i r lt ∙ ap (λ x. x ∷ drop (suc i) all) (sym is) in
    rw (add-one i) (record {
      same = λ n.
          ap (λ b. b || list_any (λ p. n == p.to && has (drop (suc i) all) p.from) ps) (put n)
          ∙ or_group (list_any (λ p. n == p.to && inside r p.from) ps) (has now n) (list_any (λ p. n == p.to && has (drop (suc i) all) p.from) ps)
          ∙ or_swap (list_any (λ p. n == p.to && inside r p.from) ps) (has now n) (list_any (λ p. n == p.to && has (drop (suc i) all) p.from) ps)
          ∙ ap (λ b. has now n || b) (sym (any_shared (λ p. n == p.to) r (drop (suc i) all) ps))
          ∙ ap (λ l. has now n || list_any (λ p. n == p.to && has l p.from) ps) (sym at)
          ∙ was.same n;
    })

pub targets_all : (ps : List Pair) (all now : List Run) (i : ℕ) → length all ≤ i → AreTargetsSoFar ps all now (drop i all) → (n : ℕ) → has now n ≡ list_any (λ p. n == p.to && has all p.from) ps
targets_all ps all now i le was n =
    sym (
    ap (λ l. has now n || list_any (λ p. n == p.to && has l p.from) ps) (past all i le)
    ∙ ap (λ b. has now n || b) (none_of_none (λ p. n == p.to) ps)
    ∙ or_nothing (has now n)
    )
    ∙ was.same n

-- in whatever order the pairs are
pub all_moved : (ps ordered : List Pair) (old new : List Sequence) → IsPermutation ps ordered → IsAllChanged (moved ordered) old new → IsAllChanged (moved ps) old new
all_moved ps ordered old new same is = record {
  numbers = λ name n. is.numbers name n ∙ by n _;
  public = is.public;
}
  where
    by : (n : ℕ) (f : ℕ → Bool) → moved ordered f n ≡ moved ps f n
    by n f =
        ap (λ b. b || (f n && not (list_any (λ p. n == p.from) ordered))) (sym (list_any-IsPermutation (λ p. n == p.to && f p.from) ps ordered same))
        ∙ ap (λ b. list_any (λ p. n == p.to && f p.from) ps || (f n && not b)) (sym (list_any-IsPermutation (λ p. n == p.from) ps ordered same))
