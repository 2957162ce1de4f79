-- Every sequence changed.
use Rattle.std.proofs.Common.{◌≡◌, ℕ, Bool, true, false, List, [], ◌∷◌, ◌++◌, refl, sym, ◌∙◌, ap, subst, append_assoc, append-nil}
use Rattle.std.specs.Prelude.{bytes_eq, ◌&&◌, ◌||◌, ◌==◌, if◌then◌else◌}
use Rattle.std.specs.List.{list_any}
use Rattle.mh_sequences.specs.declared.run.Run.{Run}
use Rattle.mh_sequences.specs.declared.mark.Pair.{Pair}
use Rattle.mh_sequences.specs.declared.change.Change.{Change}
use Rattle.mh_sequences.specs.declared.change.Change.TheVariants.{Keep, Withdraw, Move}
use Rattle.mh_sequences.specs.Runs.{has}
use Rattle.mh_sequences.specs.Sequences.{Sequence, Precedes, AreSequences, runs_of, public_of, member}
use Rattle.mh_sequences.specs.Placing.{alone}
use Rattle.mh_sequences.specs.Changes.{change_of, IsChanged, IsEach, IsAllChanged}
use Rattle.mh_sequences.proofs.NamePlaces.{absent}
use Rattle.mh_sequences.proofs.Placing.{tells, in_front, alone_valid, precedes_alone, runs_alone, public_alone}

module _ (f : (ℕ → Bool) → ℕ → Bool) (none : (n : ℕ) → f (has []) n ≡ false) where
  each_precedes : (xs ys : List Sequence) (q : List ℕ) → IsEach f xs ys → Precedes q xs → Precedes q ys
  each_precedes [] ys q e h = subst (Precedes q) (sym e) tt
  each_precedes (x ∷ xs) ys q e h = subst (Precedes q) (sym e.3) (precedes_alone q x.name x.public e.0 e.1 h.0 (each_precedes xs e.1 q e.4 h.1))

  -- in order as before
  pub each_valid : (xs ys : List Sequence) → IsEach f xs ys → AreSequences xs → AreSequences ys
  each_valid [] ys e h = subst AreSequences (sym e) tt
  each_valid (x ∷ xs) ys e h = subst AreSequences (sym e.3) (alone_valid x.name x.public e.0 e.1 h.0.name e.2.0 (each_precedes xs e.1 x.name e.4 h.1) (each_valid xs e.1 e.4 h.2))

  each_numbers : (xs ys : List Sequence) → IsEach f xs ys → AreSequences xs → (t : List ℕ) (n : ℕ) → member ys t n ≡ f (member xs t) n
  each_numbers [] ys e h t n = ap (λ l. member l t n) e ∙ sym (none n)
  each_numbers (x ∷ xs) ys e h t n =
      ap (λ l. member l t n) e.3
      ∙ ap (λ rs. has rs n) (in_front (λ s. s.runs) [] x.name x.public e.0 e.1 t (absent (λ s. s.runs) [] x.name e.1 (each_precedes xs e.1 x.name e.4 h.1)))
      ∙ by_name (bytes_eq t x.name) (each_numbers xs e.1 e.4 h.2 t n)
    where
      by_name : (b : Bool) → member e.1 t n ≡ f (member xs t) n → has (if b then tells (λ s. s.runs) [] x.name x.public e.0 else runs_of e.1 t) n ≡ f (has (if b then x.runs else runs_of xs t)) n
      by_name true ih = ap (λ rs. has rs n) (runs_alone x.name x.public e.0) ∙ e.2.1 n
      by_name false ih = ih

  each_public : (xs ys : List Sequence) → IsEach f xs ys → AreSequences xs → (t : List ℕ) (n : ℕ) → member ys t n ≡ true → public_of ys t ≡ public_of xs t
  each_public [] ys e h t n m = ap (λ l. public_of l t) e
  each_public (x ∷ xs) ys e h t n m =
      let first = each_precedes xs e.1 x.name e.4 h.1 in
      let there = sym (ap (λ rs. has rs n) (in_front (λ s. s.runs) [] x.name x.public e.0 e.1 t (absent (λ s. s.runs) [] x.name e.1 first))) ∙ sym (ap (λ l. member l t n) e.3) ∙ m in
      ap (λ l. public_of l t) e.3
      ∙ in_front (λ s. s.public) true x.name x.public e.0 e.1 t (absent (λ s. s.public) true x.name e.1 first)
      ∙ by_name (bytes_eq t x.name) there (each_public xs e.1 e.4 h.2 t n)
    where
      by_name : (b : Bool) → has (if b then tells (λ s. s.runs) [] x.name x.public e.0 else runs_of e.1 t) n ≡ true → (member e.1 t n ≡ true → public_of e.1 t ≡ public_of xs t) → (if b then tells (λ s. s.public) true x.name x.public e.0 else public_of e.1 t) ≡ (if b then x.public else public_of xs t)
      by_name true k ih = public_alone x.name x.public e.0 n (sym (ap (λ rs. has rs n) (runs_alone x.name x.public e.0)) ∙ k)
      by_name false k ih = ih k

  pub each_changed : (xs ys : List Sequence) → IsEach f xs ys → AreSequences xs → IsAllChanged f xs ys
  each_changed xs ys e h = record { numbers = each_numbers xs ys e h; public = each_public xs ys e h }

module _ (f : (ℕ → Bool) → ℕ → Bool) where
  -- what completes the rest completes all
  pub record IsSoFar (all kept rest : List Sequence) : Type 0 where
    pub whole : (more : List Sequence) → IsEach f rest more → IsEach f all (kept ++ more)

  pub begun : (all : List Sequence) → IsSoFar all [] all
  begun all = record { whole = λ more e. e }

  pub one_kept : (all kept now rest : List Sequence) (x : Sequence) (runs : List Run) → IsChanged f x.runs runs → now ≡ kept ++ alone x.name x.public runs → IsSoFar all kept (x ∷ rest) → IsSoFar all now rest
  one_kept all kept now rest x runs is e so = record {
    whole = λ more m. subst (IsEach f all) (sym (append_assoc kept (alone x.name x.public runs) more) ∙ ap (λ l. l ++ more) (sym e)) (so.whole (alone x.name x.public runs ++ more) (runs, more, is, refl, m));
  }

  pub ended : (all kept : List Sequence) → IsSoFar all kept [] → IsEach f all kept
  ended all kept so = subst (IsEach f all) (append-nil kept) (so.whole [] refl)

no_to : (pairs : List Pair) (n : ℕ) → list_any (λ p. n == p.to && false) pairs ≡ false
no_to [] n = refl
no_to (p ∷ ps) n = ap (λ b. b || list_any (λ p. n == p.to && false) ps) (nothing (n == p.to)) ∙ no_to ps n
  where
    nothing : (b : Bool) → b && false ≡ false
    nothing true = refl
    nothing false = refl

-- nothing comes of nothing
pub change_none : (c : Change) (n : ℕ) → change_of c (has []) n ≡ false
change_none (Keep l) n = refl
change_none (Withdraw l) n = refl
change_none (Move pairs sources) n = ap (λ b. b || false) (no_to pairs.now n)
