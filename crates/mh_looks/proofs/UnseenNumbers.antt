-- The numbers of some sequences as one set.
use Rattle.std.proofs.Common.{◌≡◌, ℕ, zero, suc, ◌+◌, ◌<◌, ◌≤◌, Bool, true, false, List, [], ◌∷◌, length, get_or, drop, refl, sym, ◌∙◌, ap, arith, add-one, drop-cons}
use Rattle.std.specs.Prelude.{◌||◌}
use Rattle.mh_sequences.specs.declared.run.Run.{Run}
use Rattle.mh_sequences.specs.Runs.{has}
use Rattle.message_lines.specs.Standings.{is_marked_in}

or_group : (a b c : Bool) → (a || b) || c ≡ a || (b || c)
or_group true b c = refl
or_group false b c = refl

or_nothing : (a : Bool) → a || false ≡ a
or_nothing true = refl
or_nothing false = refl

-- with the sequences that are left, the runs have these numbers
pub record IsUnited (f : ℕ → Bool) (marked : List ℕ → ℕ → Bool) (now : List Run) (rest : List (List ℕ)) : Type 0 where
  pub same : (n : ℕ) → has now n || is_marked_in marked rest n ≡ f n

pub united_none : (marked : List ℕ → ℕ → Bool) (now : List Run) (names : List (List ℕ)) → now ≡ [] → IsUnited (is_marked_in marked names) marked now names
united_none marked now names e = record { same = λ n. ap (λ l. has l n || is_marked_in marked names n) e }

pub united_more : (f : ℕ → Bool) (marked : List ℕ → ℕ → Bool) (now next : List Run) (all : List (List ℕ)) (i : ℕ) (name : List ℕ) → i < length all → name ≡ get_or all i name → ((n : ℕ) → has next n ≡ has now n || marked name n)
    → IsUnited f marked now (drop i all) → IsUnited f marked next (drop (i + 1) all)
united_more f marked now next all i name lt is put united =
    let at : drop i all ≡ name ∷ drop (suc i) all = drop-cons all i name lt ∙ ap (λ x. x ∷ drop (suc i) all) (sym is) in
    rw (add-one i) (record {
      same = λ n.
          ap (λ b. b || is_marked_in marked (drop (suc i) all) n) (put n)
          ∙ or_group (has now n) (marked name n) (is_marked_in marked (drop (suc i) all) n)
          ∙ ap (λ l. has now n || is_marked_in marked l n) (sym at)
          ∙ united.same n;
    })

past : (names : List (List ℕ)) (i : ℕ) → length names ≤ i → drop i names ≡ []
past [] zero le = refl
past [] (suc i) le = refl
past (x ∷ xs) zero le = absurd (omega arith)
past (x ∷ xs) (suc i) le = past xs i (omega arith)

pub united_all : (f : ℕ → Bool) (marked : List ℕ → ℕ → Bool) (now : List Run) (all : List (List ℕ)) (i : ℕ) → length all ≤ i → IsUnited f marked now (drop i all) → (n : ℕ) → has now n ≡ f n
united_all f marked now all i le united n = sym (ap (λ l. has now n || is_marked_in marked l n) (past all i le) ∙ or_nothing (has now n)) ∙ united.same n
