-- The numbers of a list of numbers are message numbers.
use Rattle.std.proofs.Common.{◌≡◌, ℕ, ◌≤◌, Bool, true, false, Option, Some, None, List, [], ◌∷◌, take, drop, refl, arith, ⊎_elim}
use Rattle.std.specs.Prelude.{◌&&◌, nat_le, nat_lt, if◌then◌else◌}
use Rattle.std.specs.List.{list_any, prefix_len}
use Rattle.std.proofs.lemmas.Bool.{and_parts, or_cases, ltb-true, leb-true}
use Rattle.mh_base.specs.Numbers.{IsMsgNum, in_range, decimal_of, number_of}
use Rattle.mh_sequences.specs.declared.run.Run.{Run}
use Rattle.mh_sequences.specs.Lists.{items, between, up_to, alone_or, is_no_dash, run_in, run_has, lists}

-- none, or a message number
abbrev IsRanged : Option ℕ → Type 0
IsRanged None = Unit {0}
IsRanged (Some n) = IsMsgNum n

ranged : (o : Option ℕ) → IsRanged (in_range o)
ranged None = tt
ranged (Some n) = by (nat_lt 0 n && nat_lt n 1000000) refl
  where
    by : (b : Bool) → nat_lt 0 n && nat_lt n 1000000 ≡ b → IsRanged (if b then Some n else None)
    by true e = let both = and_parts (nat_lt 0 n) (nat_lt n 1000000) e in let low = ltb-true 0 n both.0 in let high = ltb-true n 1000000 both.1 in (omega arith, omega arith)
    by false e = tt

-- a number of a run between two
between_ranged : (a b : Option ℕ) → IsRanged a → IsRanged b → (n : ℕ) → run_has (between a b) n ≡ true → (1 ≤ n) × (n ≤ 999999)
between_ranged None b x y n e = cc
between_ranged (Some a) None x y n e = cc
between_ranged (Some a) (Some b) x y n e = by (nat_le a b) e
  where
    by : (t : Bool) → run_has (if t then Some (record { from = a; to = b }) else None) n ≡ true → (1 ≤ n) × (n ≤ 999999)
    by true is = let both = and_parts (nat_le a n) (nat_le n b) is in let low = leb-true a n both.0 in let high = leb-true n b both.1 in (omega arith, omega arith)
    by false is = cc

up_to_ranged : (from : Option ℕ) (rest : List ℕ) → IsRanged from → (n : ℕ) → run_has (up_to from rest) n ≡ true → (1 ≤ n) × (n ≤ 999999)
up_to_ranged from [] x n e = cc
up_to_ranged from (dash ∷ to) x n e = between_ranged from (number_of to) x (ranged (decimal_of to)) n e

alone_ranged : (o : Option ℕ) (other : Option Run) → IsRanged o → (n : ℕ) → (run_has other n ≡ true → (1 ≤ n) × (n ≤ 999999)) → run_has (alone_or o other) n ≡ true → (1 ≤ n) × (n ≤ 999999)
alone_ranged None other x n rest e = rest e
alone_ranged (Some k) other x n rest e = let both = and_parts (nat_le k n) (nat_le n k) e in let low = leb-true k n both.0 in let high = leb-true n k both.1 in (omega arith, omega arith)

run_ranged : (item : List ℕ) (n : ℕ) → run_has (run_in item) n ≡ true → (1 ≤ n) × (n ≤ 999999)
unfolding run_in
run_ranged item n e =
    alone_ranged (number_of item) (up_to (number_of (take (prefix_len is_no_dash item) item)) (drop (prefix_len is_no_dash item) item)) (ranged (decimal_of item)) n
    (up_to_ranged (number_of (take (prefix_len is_no_dash item) item)) (drop (prefix_len is_no_dash item) item) (ranged (decimal_of (take (prefix_len is_no_dash item) item))) n) e

any_ranged : (is : List (List ℕ)) (n : ℕ) → list_any (λ item. run_has (run_in item) n) is ≡ true → (1 ≤ n) × (n ≤ 999999)
any_ranged [] n e = cc
any_ranged (item ∷ is) n e = ⊎_elim (run_ranged item n) (any_ranged is n) (or_cases (run_has (run_in item) n) (list_any (λ i. run_has (run_in i) n) is) e)

-- what a list names is a message number
pub listed_in_range : (text : List ℕ) (n : ℕ) → lists text n ≡ true → (1 ≤ n) × (n ≤ 999999)
listed_in_range text n e = any_ranged (items text) n e
