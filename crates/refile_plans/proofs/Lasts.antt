-- The last number of a listing: a message number, that no message stands above.
use Rattle.std.proofs.Common.{◌≡◌, inl, inr, ◌≤◌, ◌<◌, ◌+◌, ◌-◌, ℕ, zero, suc, Bool, true, false, List, [], ◌∷◌, length, get_or, refl, sym, ◌∙◌, subst, arith}
use Rattle.std.proofs.lemmas.Option.{unwrap_or-slice_get}
use Rattle.mh_sequences.specs.Runs.{AreRuns, has, last_in, numbers_of}
use Rattle.mh_sequences.specs.declared.run.Run.{Run}
use Rattle.msg_ranges.proofs.Rising.{Rise, first_listed, first_of, first_or, lists, lists_numbers, other_listed, rest_of, rise_runs}
use Rattle.opening_plans.proofs.Listed.{some_there}
use Rattle.refile_plans.proofs.Selected.{in_runs}

pub small_at : (ns : List ℕ) (i : ℕ) → ((k : ℕ) → lists ns k ≡ true → k ≤ 999999) → get_or ns i 0 ≤ 999999
small_at [] i f = omega (arith)
small_at (n ∷ ns) zero f = first_of {F = λ k. k ≤ 999999} n ns f
small_at (n ∷ ns) (suc i) f = small_at ns i (rest_of {F = λ k. k ≤ 999999} n ns f)

pub last_small : (listing : List Run) → AreRuns listing → last_in listing ≤ 999999
last_small listing runs =
    subst (λ k. k ≤ 999999) (sym (unwrap_or-slice_get (numbers_of listing) (length (numbers_of listing) - 1) 0))
    (small_at (numbers_of listing) (length (numbers_of listing) - 1) (λ k e. (in_runs listing runs k (sym (lists_numbers listing k) ∙ e)).1))

-- a number of a list that is not 0 stands there
pub stands_at : (ns : List ℕ) (i : ℕ) → get_or ns i 0 ≡ 999999 → lists ns 999999 ≡ true
stands_at [] i e = absurd (omega (arith, e))
stands_at (n ∷ ns) zero e = subst (λ k. lists (n ∷ ns) k ≡ true) e (first_listed n ns)
stands_at (n ∷ ns) (suc i) e = other_listed n 999999 ns (stands_at ns i e)

-- where the last of a listing is the last number, a message has that
pub last_listed : (listing : List Run) → last_in listing ≡ 999999 → has listing 999999 ≡ true
last_listed listing e = sym (lists_numbers listing 999999) ∙ stands_at (numbers_of listing) (length (numbers_of listing) - 1) (sym (unwrap_or-slice_get (numbers_of listing) (length (numbers_of listing) - 1) 0) ∙ e)

-- the last of rising numbers is the greatest
pub top_at : (low : ℕ) (ns : List ℕ) (i : ℕ) → i + 1 ≡ length ns → Rise low ns → (k : ℕ) → lists ns k ≡ true → k ≤ get_or ns i 0
top_at low [] i e rise k l = cc (l)
top_at low (n ∷ []) zero e rise k l = elim (first_or n k [] l) [ inl same ↦ omega (arith, same) | inr there ↦ cc (there) ]
top_at low (n ∷ []) (suc i) e rise k l = absurd (omega (arith, e))
top_at low (n ∷ (m ∷ ms)) zero e rise k l = absurd (omega (arith, e))
top_at low (n ∷ (m ∷ ms)) (suc i) e rise k l = elim (first_or n k (m ∷ ms) l) [
  | inl same ↦ (let next = rise.1.0 in let top = top_at (n + 1) (m ∷ ms) i (omega (arith, e)) rise.1 m (first_listed m ms) in omega (arith, same, next, top))
  | inr there ↦ top_at (n + 1) (m ∷ ms) i (omega (arith, e)) rise.1 k there
]

-- no message above the last of a listing was listed
pub none_above : (listing : List Run) → AreRuns listing → (j : ℕ) → last_in listing < j → has listing j ≡ false
none_above listing runs j lt = go (has listing j) refl
  where
    ns : List ℕ
    ns = numbers_of listing

    go : (b : Bool) → has listing j ≡ b → b ≡ false
    go false e = refl
    go true e =
        let there : lists ns j ≡ true = lists_numbers listing j ∙ e in
        let top : j ≤ get_or ns (length ns - 1) 0 = top_at 1 ns (length ns - 1) (some_there ns j there) (rise_runs 1 listing runs) j there in
        let last : last_in listing ≡ get_or ns (length ns - 1) 0 = unwrap_or-slice_get ns (length ns - 1) 0 in
        absurd (omega (arith, lt, top, last))
