-- What a placed sequence changes.
use Rattle.std.proofs.Common.{◌≡◌, ℕ, Bool, true, List, [], ◌∷◌, ◌++◌, refl, sym, ◌∙◌, ap, subst, arith}
use Rattle.std.specs.Prelude.{bytes_eq, if◌then◌else◌}
use Rattle.std.specs.Ordering.{ordering_reverse}
use Rattle.std.specs.declared.cmp.Ordering.{Ordering}
use Rattle.std.specs.declared.cmp.Ordering.TheVariants.{Less, Equal, Greater}
use Rattle.std.proofs.lemmas.Bool.{both_ways}
use Rattle.std.proofs.lemmas.Cmp.{nat_list_cmp_total}
use Rattle.mh_sequences.specs.declared.run.Run.{Run}
use Rattle.mh_sequences.specs.Names.{is_seq_name}
use Rattle.mh_sequences.specs.Runs.{AreRuns, has}
use Rattle.mh_sequences.specs.Sequences.{Sequence, Precedes, AreSequences, told_of, order}
use Rattle.mh_sequences.specs.Placing.{alone, by_order, placed}
use Rattle.mh_sequences.proofs.NamePlaces.{same_by, same_is, before_all, absent}
use Rattle.mh_sequences.proofs.Bools.{choose, either_way, swapped, shadowed}

-- what is told of the sequence alone
abbrev pub tells : {X : Type 0} → (Sequence → X) → X → List ℕ → Bool → List Run → X
tells tell none name public [] = none
tells tell none name public (r ∷ rs) = tell (record { name = name; runs = r ∷ rs; public = public })

pub in_front : {X : Type 0} (tell : Sequence → X) (none : X) (name : List ℕ) (p : Bool) (runs : List Run) (ss : List Sequence) (t : List ℕ) → told_of tell none ss name ≡ none → told_of tell none (alone name p runs ++ ss) t ≡ (if bytes_eq t name then tells tell none name p runs else told_of tell none ss t)
in_front {X} tell none name p [] ss t e =
    choose (λ (x : X). told_of tell none ss t ≡ x) (bytes_eq t name) none (told_of tell none ss t)
    (λ s. ap (told_of tell none ss) (same_is t name s) ∙ e)
    (λ s. refl)
in_front tell none name p (r ∷ rs) ss t e = refl

-- what is told of a name afterwards
pub told_placed : {X : Type 0} (tell : Sequence → X) (none : X) (name : List ℕ) (p : Bool) (runs : List Run) (ss : List Sequence) → AreSequences ss → (t : List ℕ) → told_of tell none (placed name p runs ss) t ≡ (if bytes_eq t name then tells tell none name p runs else told_of tell none ss t)
told_placed tell none name p [] [] h t = either_way (bytes_eq t name) none
told_placed tell none name p (r ∷ rs) [] h t = refl
told_placed tell none name p runs (s ∷ ss) h t = by_cases (told_placed tell none name p runs ss h.2 t) (order name s.name) refl
  where
    by_cases : told_of tell none (placed name p runs ss) t ≡ (if bytes_eq t name then tells tell none name p runs else told_of tell none ss t) → (o : Ordering) → order name s.name ≡ o → told_of tell none (by_order o (alone name p runs ++ (s ∷ ss)) (alone name p runs ++ ss) (s ∷ placed name p runs ss)) t ≡ (if bytes_eq t name then tells tell none name p runs else told_of tell none (s ∷ ss) t)
    by_cases ih Less e = in_front tell none name p runs (s ∷ ss) t (absent tell none name (s ∷ ss) (e, before_all name s.name ss e h.1))
    by_cases ih Equal e =
        let same : name ≡ s.name = same_is name s.name (same_by name s.name Equal e) in
        in_front tell none name p runs ss t (absent tell none name ss (subst (λ z. Precedes z ss) (sym same) h.1))
        ∙ shadowed (bytes_eq t name) (bytes_eq t s.name) (tells tell none name p runs) (tell s) (told_of tell none ss t) (ap (bytes_eq t) same)
    by_cases ih Greater e =
        ap (λ z. if bytes_eq t s.name then tell s else z) ih
        ∙ swapped (bytes_eq t s.name) (bytes_eq t name) (tell s) (tells tell none name p runs) (told_of tell none ss t)
        (λ x y. both_ways (bytes_eq name s.name) (same_by name s.name Greater e) (ap (λ z. bytes_eq z s.name) (sym (same_is t name y)) ∙ x))

pub precedes_alone : (q name : List ℕ) (p : Bool) (runs : List Run) (ss : List Sequence) → order q name ≡ Less → Precedes q ss → Precedes q (alone name p runs ++ ss)
precedes_alone q name p [] ss lt h = h
precedes_alone q name p (r ∷ rs) ss lt h = (lt, h)

precedes_placed : (q name : List ℕ) (p : Bool) (runs : List Run) (ss : List Sequence) → order q name ≡ Less → Precedes q ss → Precedes q (placed name p runs ss)
precedes_placed q name p [] [] lt h = tt
precedes_placed q name p (r ∷ rs) [] lt h = (lt, tt)
precedes_placed q name p runs (s ∷ ss) lt h = by_cases (precedes_placed q name p runs ss lt h.1) (order name s.name)
  where
    by_cases : Precedes q (placed name p runs ss) → (o : Ordering) → Precedes q (by_order o (alone name p runs ++ (s ∷ ss)) (alone name p runs ++ ss) (s ∷ placed name p runs ss))
    by_cases ih Less = precedes_alone q name p runs (s ∷ ss) lt h
    by_cases ih Equal = precedes_alone q name p runs ss lt h.1
    by_cases ih Greater = (h.0, ih)

pub alone_valid : (name : List ℕ) (p : Bool) (runs : List Run) (ss : List Sequence) → is_seq_name name ≡ true → AreRuns runs → Precedes name ss → AreSequences ss → AreSequences (alone name p runs ++ ss)
alone_valid name p [] ss named valid h k = k
alone_valid name p (r ∷ rs) ss named valid h k = (record { name = named; some = omega arith; runs = valid }, h, k)

pub placed_valid : (name : List ℕ) (p : Bool) (runs : List Run) (ss : List Sequence) → is_seq_name name ≡ true → AreRuns runs → AreSequences ss → AreSequences (placed name p runs ss)
placed_valid name p [] [] named valid h = tt
placed_valid name p (r ∷ rs) [] named valid h = (record { name = named; some = omega arith; runs = valid }, tt, tt)
placed_valid name p runs (s ∷ ss) named valid h = by_cases (placed_valid name p runs ss named valid h.2) (order name s.name) refl
  where
    by_cases : AreSequences (placed name p runs ss) → (o : Ordering) → order name s.name ≡ o → AreSequences (by_order o (alone name p runs ++ (s ∷ ss)) (alone name p runs ++ ss) (s ∷ placed name p runs ss))
    by_cases ih Less e = alone_valid name p runs (s ∷ ss) named valid (e, before_all name s.name ss e h.1) h
    by_cases ih Equal e =
        let same : name ≡ s.name = same_is name s.name (same_by name s.name Equal e) in
        alone_valid name p runs ss named valid (subst (λ z. Precedes z ss) (sym same) h.1) h.2
    by_cases ih Greater e =
        let back : order s.name name ≡ Less = nat_list_cmp_total.antisymm s.name name ∙ ap ordering_reverse e in
        (h.0, precedes_placed s.name name p runs ss back h.1, ih)

-- what is told of the sequence alone, where it has a number
pub runs_alone : (name : List ℕ) (p : Bool) (runs : List Run) → tells (λ s. s.runs) [] name p runs ≡ runs
runs_alone name p [] = refl
runs_alone name p (r ∷ rs) = refl

pub public_alone : (name : List ℕ) (p : Bool) (runs : List Run) (n : ℕ) → has runs n ≡ true → tells (λ s. s.public) true name p runs ≡ p
public_alone name p [] n e = cc
public_alone name p (r ∷ rs) n e = refl
