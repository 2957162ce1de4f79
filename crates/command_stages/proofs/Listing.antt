-- Message numbers among names.
use Rattle.std.proofs.Common.{◌≡◌, ℕ, ◌+◌, ◌<◌, ◌≤◌, ◌||◌, ◌==◌, ◌&&◌, Bool, true, false, Some, List, length, drop, get_or, refl, sym, ◌∙◌, ap, arith}
use Rattle.std.specs.Prelude.{nat_le}
use Rattle.std.proofs.lemmas.List.{drop_all}
use Rattle.std.proofs.lemmas.Bool.Decides.{nat_tests}
use Rattle.mh_base.specs.Numbers.{number_of}
use Rattle.mh_sequences.specs.declared.run.Run.{Run}
use Rattle.mh_sequences.specs.Runs.{has, inside}
use Rattle.file_plans.specs.Sightings.{has_number, is_this}
use Rattle.step_plans.proofs.Rounds.{next}

pub inside_one : (k n : ℕ) → inside (record { from = k; to = k }) n ≡ is_this n (Some k)
inside_one k n = let e : (nat_le k n && nat_le n k) ≡ (k == n) = grind (arith, nat_tests) in e

pub swap : (a b c : Bool) → (a || b) || c ≡ b || (a || c)
swap true true c = refl
swap true false c = refl
swap false true c = refl
swap false false c = refl

-- one name more: what was noted, or is still to be
pub one_noted : (names : List (List ℕ)) (i : ℕ) (x : List ℕ) (old new : List Run) → i < length names → x ≡ get_or names i x → ((n : ℕ) → has new n ≡ (is_this n (number_of x) || has old n))
    → ((n : ℕ) → has old n || has_number n (drop i names) ≡ has_number n names) → (n : ℕ) → has new n || has_number n (drop (i + 1) names) ≡ has_number n names
one_noted names i x old new h is put left n =
    ap (λ b. b || has_number n (drop (i + 1) names)) (put n) ∙ swap (is_this n (number_of x)) (has old n) (has_number n (drop (i + 1) names)) ∙ ap (λ l. has old n || has_number n l) (sym (next names i x h is)) ∙ left n

pub or_none : (b : Bool) → b || false ≡ b
or_none true = refl
or_none false = refl

pub all_noted : (names : List (List ℕ)) (i : ℕ) (runs : List Run) → length names ≤ i → ((n : ℕ) → has runs n || has_number n (drop i names) ≡ has_number n names) → (n : ℕ) → has runs n ≡ has_number n names
all_noted names i runs h left n = sym (or_none (has runs n)) ∙ ap (λ l. has runs n || has_number n l) (sym (drop_all i names h)) ∙ left n
