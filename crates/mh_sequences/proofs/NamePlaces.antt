-- Sequences by name, in byte order.
use Rattle.std.proofs.Common.{◌≡◌, ℕ, zero, suc, ◌+◌, ◌<◌, Bool, true, false, List, [], ◌∷◌, ◌++◌, length, map, take, drop, get_or, refl, sym, ◌∙◌, ap, subst, arith, add-one, append-nil}
use Rattle.std.proofs.Math.Seq.{drop-length}
use Rattle.std.specs.Prelude.{bytes_eq, slice_index_or, slice_set, ◌==◌, if◌then◌else◌}
use Rattle.std.specs.Ordering.{is_eq}
use Rattle.std.specs.declared.cmp.Ordering.{Ordering}
use Rattle.std.specs.declared.cmp.Ordering.TheVariants.{Less, Equal, Greater}
use Rattle.std.proofs.lemmas.Cmp.{nat_list_cmp_total}
use Rattle.std.proofs.lemmas.Map.Text.{is_eq-slice_cmp}
use Rattle.std.proofs.lemmas.Slice.Eq.{bytes_eq-Decides}
use Rattle.mh_sequences.specs.declared.run.Run.{Run}
use Rattle.mh_sequences.specs.declared.user.User.{User}
use Rattle.mh_sequences.specs.Sequences.{Sequence, told, Precedes, AreSequences, told_of, runs_of, public_of, order}
use Rattle.mh_sequences.specs.Placing.{alone, by_order, placed, IsAt, IsBefore}

pub same_by : (a b : List ℕ) (o : Ordering) → order a b ≡ o → bytes_eq a b ≡ is_eq o
same_by a b o e = sym (is_eq-slice_cmp a b) ∙ ap is_eq e

pub same_self : (a : List ℕ) → bytes_eq a a ≡ true
same_self a = (bytes_eq-Decides a a).1 refl

pub same_is : (a b : List ℕ) → bytes_eq a b ≡ true → a ≡ b
same_is a b e = (bytes_eq-Decides a b).0 e

pub before_all : (a b : List ℕ) (ss : List Sequence) → order a b ≡ Less → Precedes b ss → Precedes a ss
before_all a b [] lt h = tt
before_all a b (s ∷ ss) lt h = (nat_list_cmp_total.trans a b s.name lt h.0, before_all a b ss lt h.1)

-- a name before all of them is none of theirs
pub absent : {X : Type 0} (tell : Sequence → X) (none : X) (name : List ℕ) (ss : List Sequence) → Precedes name ss → told_of tell none ss name ≡ none
absent tell none name [] h = refl
absent tell none name (s ∷ ss) h = rw (same_by name s.name Less h.0) (absent tell none name ss h.1)

drop_sequences : (ss : List Sequence) (i : ℕ) → AreSequences ss → AreSequences (drop i ss)
drop_sequences [] zero h = tt
drop_sequences [] (suc i) h = tt
drop_sequences (s ∷ ss) zero h = h
drop_sequences (s ∷ ss) (suc i) h = drop_sequences ss i h.2

-- the first of them have other names
pub record IsPassed (name : List ℕ) (ss : List Sequence) (i : ℕ) : Type 0 where
  pub put : (public : Bool) (runs : List Run) → placed name public runs ss ≡ take i ss ++ placed name public runs (drop i ss)
  pub runs : runs_of ss name ≡ runs_of (drop i ss) name
  pub public : public_of ss name ≡ public_of (drop i ss) name

pub none_passed : (name : List ℕ) (ss : List Sequence) → IsPassed name ss 0
none_passed name ss = record { put = λ p r. refl; runs = refl; public = refl }

taken_more : (ss : List Sequence) (i : ℕ) (s : Sequence) → drop i ss ≡ s ∷ drop (suc i) ss → (rest : List Sequence) → take i ss ++ (s ∷ rest) ≡ take (suc i) ss ++ rest
taken_more [] zero s e rest = cc
taken_more [] (suc i) s e rest = cc
taken_more (x ∷ xs) zero s e rest = let same : x ≡ s = cc in ap (λ y. y ∷ rest) (sym same)
taken_more (x ∷ xs) (suc i) s e rest = ap (λ l. x ∷ l) (taken_more xs i s e rest)

module _ (name : List ℕ) (ss : List Sequence) (i : ℕ) (s : Sequence) (at : drop i ss ≡ s ∷ drop (suc i) ss) (is : IsPassed name ss i) where
  pub one_more : order name s.name ≡ Greater → IsPassed name ss (i + 1)
  one_more e = rw (add-one i) (record {
    put = λ p r. is.put p r ∙ ap (λ l. take i ss ++ placed name p r l) at ∙ ap (λ o. take i ss ++ by_order o (alone name p r ++ (s ∷ drop (suc i) ss)) (alone name p r ++ drop (suc i) ss) (s ∷ placed name p r (drop (suc i) ss))) e ∙ taken_more ss i s at (placed name p r (drop (suc i) ss));
    runs = is.runs ∙ ap (λ l. runs_of l name) at ∙ ap (λ b. if b then s.runs else runs_of (drop (suc i) ss) name) (same_by name s.name Greater e);
    public = is.public ∙ ap (λ l. public_of l name) at ∙ ap (λ b. if b then s.public else public_of (drop (suc i) ss) name) (same_by name s.name Greater e);
  })

  pub found_here : i < length ss → ((d : Sequence) → slice_index_or ss i d ≡ s) → order name s.name ≡ Equal → IsAt name ss i
  found_here lt value e = record {
    within = lt;
    put = λ p r. is.put p r ∙ ap (λ l. take i ss ++ placed name p r l) at ∙ ap (λ o. take i ss ++ by_order o (alone name p r ++ (s ∷ drop (suc i) ss)) (alone name p r ++ drop (suc i) ss) (s ∷ placed name p r (drop (suc i) ss))) e ∙ ap (λ j. take i ss ++ (alone name p r ++ drop j ss)) (sym (add-one i));
    named = λ d. ap (λ x. x.name) (value d) ∙ sym (same_is name s.name (same_by name s.name Equal e));
    runs = λ d. is.runs ∙ ap (λ l. runs_of l name) at ∙ ap (λ b. if b then s.runs else runs_of (drop (suc i) ss) name) (same_by name s.name Equal e) ∙ ap (λ x. x.runs) (sym (value d));
    public = λ d. is.public ∙ ap (λ l. public_of l name) at ∙ ap (λ b. if b then s.public else public_of (drop (suc i) ss) name) (same_by name s.name Equal e) ∙ ap (λ x. x.public) (sym (value d));
  }

  pub stopped_here : AreSequences ss → i < length ss → order name s.name ≡ Less → IsBefore name ss i
  stopped_here h lt e =
      let rest : AreSequences (s ∷ drop (suc i) ss) = subst AreSequences at (drop_sequences ss i h) in
      let all : Precedes name (s ∷ drop (suc i) ss) = (e, before_all name s.name (drop (suc i) ss) e rest.1) in
      record {
        within = omega arith;
        put = λ p r. is.put p r ∙ ap (λ l. take i ss ++ placed name p r l) at ∙ ap (λ o. take i ss ++ by_order o (alone name p r ++ (s ∷ drop (suc i) ss)) (alone name p r ++ drop (suc i) ss) (s ∷ placed name p r (drop (suc i) ss))) e ∙ ap (λ l. take i ss ++ (alone name p r ++ l)) (sym at);
        runs = is.runs ∙ ap (λ l. runs_of l name) at ∙ absent (λ x. x.runs) [] name (s ∷ drop (suc i) ss) all;
        public = is.public ∙ ap (λ l. public_of l name) at ∙ absent (λ x. x.public) true name (s ∷ drop (suc i) ss) all;
      }

pub all_passed : (name : List ℕ) (ss : List Sequence) → IsPassed name ss (length ss) → IsBefore name ss (length ss)
all_passed name ss is = record {
  within = omega arith;
  put = λ p r. is.put p r ∙ ap (λ l. take (length ss) ss ++ placed name p r l) (drop-length ss) ∙ ap (λ l. take (length ss) ss ++ l) (sym (append-nil (alone name p r))) ∙ ap (λ l. take (length ss) ss ++ (alone name p r ++ l)) (sym (drop-length ss));
  runs = is.runs ∙ ap (λ l. runs_of l name) (drop-length ss);
  public = is.public ∙ ap (λ l. public_of l name) (drop-length ss);
}

-- what an item tells
pub item_at : (us : List User) (i : ℕ) (u : User) → i < length us → u ≡ get_or us i u → drop i (map told us) ≡ told u ∷ drop (suc i) (map told us)
item_at [] i u lt e = absurd (omega arith)
item_at (x ∷ xs) zero u lt e = ap (λ y. told y ∷ map told xs) (sym e)
item_at (x ∷ xs) (suc i) u lt e = item_at xs i u (omega arith) e

pub value_at : (us : List User) (i : ℕ) (u : User) → i < length us → u ≡ get_or us i u → (d : Sequence) → slice_index_or (map told us) i d ≡ told u
value_at [] i u lt e d = absurd (omega arith)
value_at (x ∷ xs) zero u lt e d = ap told (sym e)
value_at (x ∷ xs) (suc i) u lt e d = value_at xs i u (omega arith) e d

pub told_length : (us : List User) → length (map told us) ≡ length us
told_length [] = refl
told_length (x ∷ xs) = ap suc (told_length xs)

pub all_told : (name : List ℕ) (us : List User) (i : ℕ) → i ≡ length us → IsPassed name (map told us) i → IsBefore name (map told us) i
all_told name us i e is =
    let n : i ≡ length (map told us) = e ∙ sym (told_length us) in
    subst (λ j. IsBefore name (map told us) j) (sym n) (all_passed name (map told us) (subst (λ j. IsPassed name (map told us) j) n is))

-- what stands at the place of a name
pub at_place : (us : List User) (i : ℕ) (name : List ℕ) (u : User) → IsAt name (map told us) i → u ≡ get_or us i u → (u.name ≡ name) × (runs_of (map told us) name ≡ u.numbers.runs) × (public_of (map told us) name ≡ u.public)
at_place us i name u is e =
    let same = told_length us in
    let lt : i < length us = rw same at is.within in
    let d : Sequence = record { name = []; runs = []; public = true } in
    let value = value_at us i u lt e d in
    (ap (λ x. x.name) (sym value) ∙ is.named d, is.runs d ∙ ap (λ x. x.runs) value, is.public d ∙ ap (λ x. x.public) value)

told_take : (us : List User) (i : ℕ) → map told (take i us) ≡ take i (map told us)
told_take [] zero = refl
told_take [] (suc i) = refl
told_take (x ∷ xs) zero = refl
told_take (x ∷ xs) (suc i) = ap (λ l. told x ∷ l) (told_take xs i)

told_drop : (us : List User) (i : ℕ) → map told (drop i us) ≡ drop i (map told us)
told_drop [] zero = refl
told_drop [] (suc i) = refl
told_drop (x ∷ xs) zero = refl
told_drop (x ∷ xs) (suc i) = told_drop xs i

told_append : (us vs : List User) → map told (us ++ vs) ≡ map told us ++ map told vs
told_append [] vs = refl
told_append (x ∷ xs) vs = ap (λ l. told x ∷ l) (told_append xs vs)

-- what a cut list tells
pub told_cut : (us ms : List User) (i j : ℕ) → map told (take i us ++ (ms ++ drop j us)) ≡ take i (map told us) ++ (map told ms ++ drop j (map told us))
told_cut us ms i j =
    told_append (take i us) (ms ++ drop j us)
    ∙ (λ k. told_take us i k ++ told_append ms (drop j us) k)
    ∙ ap (λ l. take i (map told us) ++ (map told ms ++ l)) (told_drop us j)

set_user : (us : List User) (i : ℕ) (v : User) → i < length us → slice_set us i v ≡ take i us ++ (v ∷ drop (suc i) us)
set_user [] i v lt = absurd (omega arith)
set_user (x ∷ xs) zero v lt = refl
set_user (x ∷ xs) (suc i) v lt = ap (λ l. x ∷ l) (set_user xs i v (omega arith))

pub some_alone : (name : List ℕ) (p : Bool) (runs : List Run) → length runs == 0 ≡ false → alone name p runs ≡ record { name = name; runs = runs; public = p } ∷ []
some_alone name p [] e = cc
some_alone name p (r ∷ rs) e = refl

-- with its numbers and its state changed
pub put_there : (us : List User) (i : ℕ) (name : List ℕ) (u v : User) → IsAt name (map told us) i → u ≡ get_or us i u → v.name ≡ u.name → length v.numbers.runs == 0 ≡ false → map told (slice_set us i v) ≡ placed name v.public v.numbers.runs (map told us)
put_there us i name u v is at same e =
    let count = told_length us in
    let lt : i < length us = rw count at is.within in
    let value : told v ≡ record { name = name; runs = v.numbers.runs; public = v.public } = ap (λ n. record { name = n; runs = v.numbers.runs; public = v.public }) (same ∙ (at_place us i name u is at).0) in
    ap (map told) (set_user us i v lt)
    ∙ told_cut us (v ∷ []) i (suc i)
    ∙ ap (λ x. take i (map told us) ++ (x ∷ drop (suc i) (map told us))) value
    ∙ ap (λ l. take i (map told us) ++ (l ++ drop (suc i) (map told us))) (sym (some_alone name v.public v.numbers.runs e))
    ∙ ap (λ j. take i (map told us) ++ (alone name v.public v.numbers.runs ++ drop j (map told us))) (sym (add-one i))
    ∙ sym (is.put v.public v.numbers.runs)

-- with a new one
pub put_new : (us : List User) (i : ℕ) (name : List ℕ) (v : User) → IsBefore name (map told us) i → v.name ≡ name → length v.numbers.runs == 0 ≡ false → map told (take i us ++ (v ∷ drop i us)) ≡ placed name v.public v.numbers.runs (map told us)
put_new us i name v is same e =
    told_cut us (v ∷ []) i i
    ∙ ap (λ n. take i (map told us) ++ (record { name = n; runs = v.numbers.runs; public = v.public } ∷ drop i (map told us))) same
    ∙ ap (λ l. take i (map told us) ++ (l ++ drop i (map told us))) (sym (some_alone name v.public v.numbers.runs e))
    ∙ sym (is.put v.public v.numbers.runs)
