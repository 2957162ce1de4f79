-- Sequences that get back what they had are what they were.
use Rattle.std.proofs.Common.{◌≡◌, ◌++◌, ◌∷◌, ℕ, Bool, true, false, List, [], map, refl, sym, ap, ◌∙◌, subst}
use Rattle.std.specs.Prelude.{◌==◌, ◌&&◌, bytes_eq, not, if◌then◌else◌}
use Rattle.std.specs.List.{list_any}
use Rattle.std.proofs.lemmas.Bool.{both_ways}
use Rattle.mh_sequences.specs.Marks.{IsMarked}
use Rattle.mh_sequences.specs.Runs.{has, set_of}
use Rattle.mh_sequences.specs.Sequences.{AreSequences, Marked, Sequence, member, public_of, runs_of, told_of}
use Rattle.mh_sequences.specs.declared.mark.Mark.{Mark}
use Rattle.mh_sequences.specs.declared.mark.Mark.TheVariants.{Move as Moves, Withdraw}
use Rattle.mh_sequences.specs.declared.mark.Pair.{Pair}
use Rattle.mh_sequences.proofs.NamePlaces.{absent, same_is}
use Rattle.mh_sequences.proofs.Same.{same_sequences}
use Rattle.sequence_commits.specs.Marking.{marked_by, marked_by_all}
use Rattle.sequence_commits.specs.RunsOfAll.{set_among}
use Rattle.sequence_commits.proofs.MarkedOnce.{marked_is, marked_valid}
use Rattle.sequence_commits.proofs.RunTests.{all_runs}
use Rattle.sortm_plans.specs.Marking.{set_again}
use Rattle.refile_plans.specs.Rmm.{withdrawn}

-- what these sequences get back, after other marks
abbrev again : List Sequence → Marked → Marked
again ss c = marked_by_all (map set_again ss) c

-- one of these has the name
abbrev found : List Sequence → List ℕ → Bool
found ss t = told_of (λ s. true) false ss t

again_valid : (ss : List Sequence) (c : Marked) → AreSequences c.users → AreSequences (again ss c).users
unfolding marked_by_all
again_valid [] c h = h
again_valid (s ∷ ss) c h = again_valid ss (marked_by (set_again s) c) (marked_valid (set_again s) c)

again_cur : (ss : List Sequence) (c : Marked) → AreSequences ss → AreSequences c.users → (again ss c).cur ≡ c.cur
unfolding marked_by_all
again_cur [] c v h = refl
again_cur (s ∷ ss) c v h = again_cur ss (marked_by (set_again s) c) v.2 (marked_valid (set_again s) c) ∙ (marked_is (set_again s) c h (v.0.name, v.0.runs)).cur

-- what is told of a name is the same after all of these marks as before, or as the sequences have it
record IsTold (t : List ℕ) (n : ℕ) (new old : List Sequence) : Type 0 where
  numbers : member new t n ≡ member old t n
  public : member new t n ≡ true → public_of new t ≡ public_of old t

module _ (t : List ℕ) (n : ℕ) where
  -- after the mark on another sequence
  passed : (s : Sequence) (rest new : List Sequence) (c : Marked) → bytes_eq t s.name ≡ false → AreSequences c.users → AreSequences (s ∷ rest) → IsTold t n new (marked_by (set_again s) c).users → IsTold t n new c.users
  passed s rest new c other h v is =
      let one : IsMarked (set_again s) c (marked_by (set_again s) c) = marked_is (set_again s) c h (v.0.name, v.0.runs) in
      record {
        numbers = is.numbers ∙ one.numbers t n ∙ ap (λ b. if b then has s.runs n else member c.users t n) other;
        public = λ m. is.public m ∙ one.public t n (sym is.numbers ∙ m) ∙ ap (λ b. if b then s.public else public_of c.users t) other;
      }

  -- after the mark on the sequence itself
  set : (s : Sequence) (rest new : List Sequence) (c : Marked) → bytes_eq t s.name ≡ true → AreSequences c.users → AreSequences (s ∷ rest) → IsTold t n new (marked_by (set_again s) c).users → IsTold t n new (s ∷ rest)
  set s rest new c same h v is =
      let one : IsMarked (set_again s) c (marked_by (set_again s) c) = marked_is (set_again s) c h (v.0.name, v.0.runs) in
      record {
        numbers = is.numbers ∙ one.numbers t n ∙ ap (λ b. if b then has s.runs n else member c.users t n) same ∙ sym (ap (λ b. has (if b then s.runs else runs_of rest t) n) same);
        public = λ m. is.public m ∙ one.public t n (sym is.numbers ∙ m) ∙ ap (λ b. if b then s.public else public_of c.users t) same ∙ sym (ap (λ b. if b then s.public else public_of rest t) same);
      }

  -- after that, of a name that is not the first
  later : (s : Sequence) (rest new : List Sequence) → bytes_eq t s.name ≡ false → IsTold t n new rest → IsTold t n new (s ∷ rest)
  later s rest new other is = record {
    numbers = is.numbers ∙ sym (ap (λ b. has (if b then s.runs else runs_of rest t) n) other);
    public = λ m. is.public m ∙ sym (ap (λ b. if b then s.public else public_of rest t) other);
  }

  -- a name that none of them has
  left : (ss : List Sequence) (c : Marked) → AreSequences ss → AreSequences c.users → found ss t ≡ false → IsTold t n (again ss c).users c.users
  unfolding marked_by_all
  left [] c v h e = record { numbers = refl; public = λ m. refl }
  left (s ∷ ss) c v h e = by (bytes_eq t s.name) refl e (left ss (marked_by (set_again s) c) v.2 (marked_valid (set_again s) c))
    where
      by : (b : Bool) → bytes_eq t s.name ≡ b → (if b then true else found ss t) ≡ false → (found ss t ≡ false → IsTold t n (again ss (marked_by (set_again s) c)).users (marked_by (set_again s) c).users)
          → IsTold t n (again ss (marked_by (set_again s) c)).users c.users
      by true q e more = absurd (cc e)
      by false q e more = passed s ss (again ss (marked_by (set_again s) c)).users c q h v (more e)

  -- a name that one of them has
  there : (ss : List Sequence) (c : Marked) → AreSequences ss → AreSequences c.users → found ss t ≡ true → IsTold t n (again ss c).users ss
  unfolding marked_by_all
  there [] c v h e = absurd (cc e)
  there (s ∷ ss) c v h e = by (bytes_eq t s.name) refl e (there ss (marked_by (set_again s) c) v.2 (marked_valid (set_again s) c))
    where
      by : (b : Bool) → bytes_eq t s.name ≡ b → (if b then true else found ss t) ≡ true → (found ss t ≡ true → IsTold t n (again ss (marked_by (set_again s) c)).users ss)
          → IsTold t n (again ss (marked_by (set_again s) c)).users (s ∷ ss)
      by true q e more =
          let none : found ss t ≡ false = absent (λ s. true) false t ss (subst (λ x. Rattle.mh_sequences.specs.Sequences.Precedes x ss) (sym (same_is t s.name q)) v.1) in
          set s ss (again ss (marked_by (set_again s) c)).users c q h v (left ss (marked_by (set_again s) c) v.2 (marked_valid (set_again s) c) none)
      by false q e more = later s ss (again ss (marked_by (set_again s) c)).users q (more e)

  none_member : (ss : List Sequence) → found ss t ≡ false → member ss t n ≡ false
  none_member [] e = refl
  none_member (s ∷ ss) e = by (bytes_eq t s.name) e (none_member ss)
    where
      by : (b : Bool) → (if b then true else found ss t) ≡ false → (found ss t ≡ false → member ss t n ≡ false) → has (if b then s.runs else runs_of ss t) n ≡ false
      by true e more = absurd (cc e)
      by false e more = more e

module _ (numbers : List ℕ) (m : Marked) (h : AreSequences m.users) where
  abbrev w : Marked
  w = withdrawn numbers m

  w_valid : AreSequences w.users
  w_valid = marked_valid (Withdraw (set_of (set_among numbers) 0)) m

  w_is : IsMarked (Withdraw (set_of (set_among numbers) 0)) m w
  w_is = marked_is (Withdraw (set_of (set_among numbers) 0)) m h (all_runs (λ n. list_any (λ k. k == n) numbers))

  none_after : (t : List ℕ) (n : ℕ) → found m.users t ≡ false → member (again m.users w).users t n ≡ false
  none_after t n e = (left t n m.users w h w_valid e).numbers ∙ w_is.numbers t n ∙ ap (λ b. b && not (has (set_among numbers) n)) (none_member t n m.users e)

  same_numbers : (t : List ℕ) (n : ℕ) → member (again m.users w).users t n ≡ member m.users t n
  same_numbers t n = by (found m.users t) refl
    where
      by : (b : Bool) → found m.users t ≡ b → member (again m.users w).users t n ≡ member m.users t n
      by true e = (there t n m.users w h w_valid e).numbers
      by false e = none_after t n e ∙ sym (none_member t n m.users e)

  same_public : (t : List ℕ) (n : ℕ) → member (again m.users w).users t n ≡ true → public_of (again m.users w).users t ≡ public_of m.users t
  same_public t n is = by (found m.users t) refl
    where
      by : (b : Bool) → found m.users t ≡ b → public_of (again m.users w).users t ≡ public_of m.users t
      by true e = (there t n m.users w h w_valid e).public is
      by false e = absurd (both_ways (member (again m.users w).users t n) (none_after t n e) is)

  -- what was withdrawn is back
  pub back_again : again m.users w ≡ m
  back_again =
      let users : (again m.users w).users ≡ m.users = same_sequences (again m.users w).users m.users (again_valid m.users w w_valid) h same_numbers same_public in
      let cur : (again m.users w).cur ≡ m.cur = again_cur m.users w h w_valid ∙ w_is.cur in
      λ i. record { users = users i; cur = cur i }

  in_turn : (a b : List Mark) (c : Marked) → marked_by_all (a ++ b) c ≡ marked_by_all b (marked_by_all a c)
  unfolding marked_by_all
  in_turn [] b c = refl
  in_turn (x ∷ a) b c = in_turn a b (marked_by x c)

  -- and then moves
  pub moved_again : (pairs : List Pair) → marked_by_all (map set_again m.users ++ Moves pairs ∷ []) w ≡ marked_by (Moves pairs) m
  unfolding marked_by_all
  moved_again pairs = in_turn (map set_again m.users) (Moves pairs ∷ []) w ∙ ap (marked_by (Moves pairs)) back_again
