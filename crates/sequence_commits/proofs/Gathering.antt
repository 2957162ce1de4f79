-- Sequences that are put together by their names.
use Rattle.std.proofs.Common.{◌≡◌, ℕ, ◌≤◌, Bool, true, false, List, [], ◌∷◌, refl, sym, ◌∙◌, ap, arith, ⊎_elim}
use Rattle.std.specs.Prelude.{◌&&◌, ◌||◌, bytes_eq, IsTrue, if◌then◌else◌}
use Rattle.std.specs.List.{list_any}
use Rattle.std.proofs.lemmas.Bool.{both_ways, cases_lt}
use Rattle.mh_sequences.specs.Names.{is_seq_name}
use Rattle.mh_sequences.specs.Placing.{placed}
use Rattle.mh_sequences.specs.Runs.{AreRuns, has}
use Rattle.mh_sequences.specs.Sequences.{Sequence, AreSequences, runs_of, public_of, member}
use Rattle.mh_sequences.specs.declared.run.Run.{Run}
use Rattle.mh_sequences.proofs.Bools.{same_test}
use Rattle.mh_sequences.proofs.NamePlaces.{same_is}
use Rattle.mh_sequences.proofs.Placing.{told_placed, placed_valid, runs_alone, public_alone}
use Rattle.mh_sequences.proofs.Same.{same_sequences}
use Rattle.sequence_commits.specs.RunsOfAll.{runs_of_all}
use Rattle.sequence_commits.specs.Together.{sequences_of}
use Rattle.sequence_commits.proofs.RunTests.{all_runs, all_has, none_outside}

-- the name is one of these, and a sequence's
abbrev pub is_named : List (List ℕ) → List ℕ → Bool
is_named names t = list_any (λ name. is_seq_name name && bytes_eq t name) names

-- the runs of a sequence of valid ones are a set's
runs_valid : (ss : List Sequence) → AreSequences ss → (t : List ℕ) → AreRuns (runs_of ss t)
runs_valid [] h t = tt
runs_valid (s ∷ ss) h t = by (bytes_eq t s.name) (runs_valid ss h.2 t)
  where
    by : (b : Bool) → AreRuns (runs_of ss t) → AreRuns (if b then s.runs else runs_of ss t)
    by true rest = h.0.runs
    by false rest = rest

-- a member's name is a sequence's
pub member_named : (ss : List Sequence) → AreSequences ss → (t : List ℕ) (n : ℕ) → member ss t n ≡ true → is_seq_name t ≡ true
member_named [] h t n m = cc
member_named (s ∷ ss) h t n m = by (bytes_eq t s.name) refl m (member_named ss h.2 t n)
  where
    by : (b : Bool) → bytes_eq t s.name ≡ b → has (if b then s.runs else runs_of ss t) n ≡ true → (member ss t n ≡ true → is_seq_name t ≡ true) → is_seq_name t ≡ true
    by true e m rest = ap is_seq_name (same_is t s.name e) ∙ h.0.name
    by false e m rest = rest m

-- and a message number
pub member_in_range : (ss : List Sequence) → AreSequences ss → (t : List ℕ) (n : ℕ) → (1 ≤ n → n ≤ 999999 → ⊥) → member ss t n ≡ false
member_in_range ss h t n out = none_outside (runs_of ss t) n (runs_valid ss h t) out

outside : (ss : List Sequence) → AreSequences ss → (t : List ℕ) (n : ℕ) → (1 ≤ n → n ≤ 999999 → ⊥) → (b : Bool) → (b ≡ true → (1 ≤ n) × (n ≤ 999999)) → member ss t n ≡ b
outside ss h t n out true within = absurd (out (within refl).0 (within refl).1)
outside ss h t n out false within = member_in_range ss h t n out

-- a message number or none
pub within_or_not : (P : Type 0) (n : ℕ) → (1 ≤ n → n ≤ 999999 → P) → ((1 ≤ n → n ≤ 999999 → ⊥) → P) → P
within_or_not P n inside off =
    ⊎_elim (λ low. off (λ a b. omega arith))
    (λ ge. ⊎_elim (λ lt. inside ge (omega arith)) (λ high. off (λ a b. omega arith)) (cases_lt n 1000000))
    (cases_lt n 1)

module _ (numbers : List ℕ → ℕ → Bool) (public : List ℕ → Bool) where
  pub sequences_valid : (names : List (List ℕ)) → AreSequences (sequences_of names numbers public)
  unfolding sequences_of
  sequences_valid [] = tt
  sequences_valid (name ∷ names) = by (is_seq_name name) refl (sequences_valid names)
    where
      by : (b : Bool) → is_seq_name name ≡ b → AreSequences (sequences_of names numbers public) → AreSequences (if b then placed name (public name) (runs_of_all (numbers name)) (sequences_of names numbers public) else sequences_of names numbers public)
      by true e rest = placed_valid name (public name) (runs_of_all (numbers name)) (sequences_of names numbers public) e (all_runs (numbers name)) rest
      by false e rest = rest

  -- the numbers of each
  runs_together : (names : List (List ℕ)) (t : List ℕ) → runs_of (sequences_of names numbers public) t ≡ (if is_named names t then runs_of_all (numbers t) else [])
  unfolding sequences_of
  runs_together [] t = refl
  runs_together (name ∷ names) t = by (is_seq_name name) (runs_together names t)
    where
      one : (b : Bool) → bytes_eq t name ≡ b → runs_of (sequences_of names numbers public) t ≡ (if is_named names t then runs_of_all (numbers t) else []) → (if b then runs_of_all (numbers name) else runs_of (sequences_of names numbers public) t) ≡ (if b || is_named names t then runs_of_all (numbers t) else [])
      one true e ih = ap (λ x. runs_of_all (numbers x)) (sym (same_is t name e))
      one false e ih = ih

      by : (b : Bool) → runs_of (sequences_of names numbers public) t ≡ (if is_named names t then runs_of_all (numbers t) else []) → runs_of (if b then placed name (public name) (runs_of_all (numbers name)) (sequences_of names numbers public) else sequences_of names numbers public) t ≡ (if (b && bytes_eq t name) || is_named names t then runs_of_all (numbers t) else [])
      by true ih =
          told_placed (λ s. s.runs) [] name (public name) (runs_of_all (numbers name)) (sequences_of names numbers public) (sequences_valid names) t
          ∙ ap (λ x. if bytes_eq t name then x else runs_of (sequences_of names numbers public) t) (runs_alone name (public name) (runs_of_all (numbers name)))
          ∙ one (bytes_eq t name) refl ih
      by false ih = ih

  has_if : (b : Bool) (runs : List Run) (n : ℕ) → has (if b then runs else []) n ≡ b && has runs n
  has_if true runs n = refl
  has_if false runs n = refl

  pub members_together : (names : List (List ℕ)) (t : List ℕ) (n : ℕ) → member (sequences_of names numbers public) t n ≡ is_named names t && has (runs_of_all (numbers t)) n
  members_together names t n = ap (λ rs. has rs n) (runs_together names t) ∙ has_if (is_named names t) (runs_of_all (numbers t)) n

  -- each is public as it is said
  pub public_together : (names : List (List ℕ)) (t : List ℕ) (n : ℕ) → member (sequences_of names numbers public) t n ≡ true → public_of (sequences_of names numbers public) t ≡ public t
  unfolding sequences_of
  public_together [] t n m = cc
  public_together (name ∷ names) t n m = by (is_seq_name name) m (public_together names t n)
    where
      rest : List Sequence
      rest = sequences_of names numbers public

      one : (b : Bool) → bytes_eq t name ≡ b → has (if b then runs_of_all (numbers name) else runs_of (sequences_of names numbers public) t) n ≡ true
          → (member (sequences_of names numbers public) t n ≡ true → public_of (sequences_of names numbers public) t ≡ public t)
          → (if b then Rattle.mh_sequences.proofs.Placing.tells (λ s. s.public) true name (public name) (runs_of_all (numbers name)) else public_of (sequences_of names numbers public) t) ≡ public t
      one true e m ih = public_alone name (public name) (runs_of_all (numbers name)) n m ∙ ap public (sym (same_is t name e))
      one false e m ih = ih m

      by : (b : Bool) → member (if b then placed name (public name) (runs_of_all (numbers name)) (sequences_of names numbers public) else sequences_of names numbers public) t n ≡ true
          → (member (sequences_of names numbers public) t n ≡ true → public_of (sequences_of names numbers public) t ≡ public t)
          → public_of (if b then placed name (public name) (runs_of_all (numbers name)) (sequences_of names numbers public) else sequences_of names numbers public) t ≡ public t
      by true m ih =
          let told : runs_of (placed name (public name) (runs_of_all (numbers name)) (sequences_of names numbers public)) t ≡ (if bytes_eq t name then runs_of_all (numbers name) else runs_of (sequences_of names numbers public) t) =
          told_placed (λ s. s.runs) [] name (public name) (runs_of_all (numbers name)) (sequences_of names numbers public) (sequences_valid names) t
          ∙ ap (λ x. if bytes_eq t name then x else runs_of (sequences_of names numbers public) t) (runs_alone name (public name) (runs_of_all (numbers name))) in
          told_placed (λ s. s.public) true name (public name) (runs_of_all (numbers name)) (sequences_of names numbers public) (sequences_valid names) t
          ∙ one (bytes_eq t name) refl (sym (ap (λ rs. has rs n) told) ∙ m) ih
      by false m ih = ih m

  -- one of these names has this message number
  in_range : (names : List (List ℕ)) (t : List ℕ) (n : ℕ) → (numbers t n ≡ true → is_named names t ≡ true) → 1 ≤ n → n ≤ 999999 → member (sequences_of names numbers public) t n ≡ numbers t n
  in_range names t n covered low high = members_together names t n ∙ ap (λ b. is_named names t && b) (all_has (numbers t) n low high) ∙ by (numbers t n) (is_named names t) covered
    where
      by : (a b : Bool) → (a ≡ true → b ≡ true) → b && a ≡ a
      by true true c = refl
      by true false c = c refl
      by false true c = refl
      by false false c = refl

  -- they have just the numbers that are told, where names speak of all of those and all are message numbers
  pub numbers_together : (names : List (List ℕ)) → ((t : List ℕ) (n : ℕ) → is_seq_name t ≡ true → numbers t n ≡ true → is_named names t ≡ true)
      → ((t : List ℕ) (n : ℕ) → is_seq_name t ≡ true → numbers t n ≡ true → (1 ≤ n) × (n ≤ 999999)) → (t : List ℕ) (n : ℕ) → member (sequences_of names numbers public) t n ≡ is_seq_name t && numbers t n
  numbers_together names covered within t n = by (is_seq_name t) refl
    where
      no_name : (b : Bool) → member (sequences_of names numbers public) t n ≡ b → is_seq_name t ≡ false → b ≡ false
      no_name true m e = absurd (both_ways (is_seq_name t) e (member_named (sequences_of names numbers public) (sequences_valid names) t n m))
      no_name false m e = refl

      by : (b : Bool) → is_seq_name t ≡ b → member (sequences_of names numbers public) t n ≡ b && numbers t n
      by true e =
          within_or_not (member (sequences_of names numbers public) t n ≡ numbers t n) n
          (λ low high. in_range names t n (covered t n e) low high)
          (λ out. outside (sequences_of names numbers public) (sequences_valid names) t n out (numbers t n) (within t n e))
      by false e = no_name (member (sequences_of names numbers public) t n) refl e

  -- and no others have
  pub only_these : (names : List (List ℕ)) (new : List Sequence) → AreSequences new → ((t : List ℕ) (n : ℕ) → is_seq_name t ≡ true → numbers t n ≡ true → is_named names t ≡ true)
      → ((t : List ℕ) (n : ℕ) → is_seq_name t ≡ true → member new t n ≡ numbers t n) → ((t : List ℕ) (n : ℕ) → IsTrue (member new t n) → public_of new t ≡ public t) → new ≡ sequences_of names numbers public
  only_these names new h covered same state =
      let within : (t : List ℕ) (n : ℕ) → is_seq_name t ≡ true → numbers t n ≡ true → (1 ≤ n) × (n ≤ 999999) =
      λ t n e is. within_or_not ((1 ≤ n) × (n ≤ 999999)) n (λ low high. (low, high)) (λ out. absurd (both_ways (member new t n) (member_in_range new h t n out) (same t n e ∙ is))) in
      let there : (t : List ℕ) (n : ℕ) → member new t n ≡ member (sequences_of names numbers public) t n =
      λ t n. same_test (member new t n) (member (sequences_of names numbers public) t n)
      (λ m. let e = member_named new h t n m in numbers_together names covered within t n ∙ (λ i. e i && (sym (same t n e) ∙ m) i))
      (λ m. let e = member_named (sequences_of names numbers public) (sequences_valid names) t n m in same t n e ∙ sym (ap (λ b. b && numbers t n) e) ∙ sym (numbers_together names covered within t n) ∙ m) in
      same_sequences new (sequences_of names numbers public) h (sequences_valid names) there (λ t n m. state t n m ∙ sym (public_together names t n (sym (there t n) ∙ m)))
