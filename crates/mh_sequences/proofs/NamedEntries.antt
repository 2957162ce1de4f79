-- Sequences under their names, told as a list.
use Rattle.std.proofs.Common.{◌≡◌, ℕ, ◌≤◌, Bool, true, false, Some, None, List, [], ◌∷◌, ◌++◌, length, map, refl, sym, ◌∙◌, ap, subst, arith, append_assoc}
use Rattle.std.specs.Prelude.{bytes_eq, ◌==◌, cond, if◌then◌else◌}
use Rattle.std.specs.BTreeMap.{insert_entry, is_at}
use Rattle.std.specs.Map.{lookup, remove_entry}
use Rattle.std.specs.Ordering.{is_eq, match_ordering, ordering_reverse}
use Rattle.std.specs.declared.cmp.Ordering.{Ordering}
use Rattle.std.specs.declared.cmp.Ordering.TheVariants.{Less, Equal, Greater}
use Rattle.std.proofs.lemmas.Bool.{eqb-true}
use Rattle.std.proofs.lemmas.Cmp.{nat_list_cmp_total}
use Rattle.std.proofs.lemmas.Map.Text.{is_eq-slice_cmp}
use Rattle.mh_sequences.specs.declared.run.Run.{Run}
use Rattle.mh_sequences.specs.declared.user_sequence.UserSequence.{UserSequence}
use Rattle.mh_sequences.specs.Placing.{alone, by_order, placed}
use Rattle.mh_sequences.specs.Sequences.{Sequence, told_entry, Precedes, AreSequences, told_of, runs_of, public_of, order}
use Rattle.mh_sequences.proofs.NamePlaces.{same_by, same_is, before_all, some_alone}

-- what is told of a name, by what stands under it
module _ {X : Type 0} (tell : Sequence → X) (none : X) (by : UserSequence → X) (same : (e : List ℕ × UserSequence) → tell (told_entry e) ≡ by e.1) where
  told_found : (name : List ℕ) (es : List (List ℕ × UserSequence)) (u : UserSequence) → lookup (is_at (order name)) es ≡ Some u → told_of tell none (map told_entry es) name ≡ by u
  told_found name [] u h = cc
  told_found name (e ∷ es) u h = by_case (bytes_eq name e.0) (is_eq-slice_cmp name e.0) (told_found name es u) h
    where
      by_case : (b : Bool) → is_eq (order name e.0) ≡ b → (lookup (is_at (order name)) es ≡ Some u → told_of tell none (map told_entry es) name ≡ by u) → lookup (is_at (order name)) (e ∷ es) ≡ Some u → (if b then tell (told_entry e) else told_of tell none (map told_entry es) name) ≡ by u
      by_case true s ih k = let found : Some e.1 ≡ Some u = rw s at k in let is : e.1 ≡ u = cc in same e ∙ ap by is
      by_case false s ih k = ih (rw s at k)

  told_missed : (name : List ℕ) (es : List (List ℕ × UserSequence)) → lookup (is_at (order name)) es ≡ None → told_of tell none (map told_entry es) name ≡ none
  told_missed name [] h = refl
  told_missed name (e ∷ es) h = by_case (bytes_eq name e.0) (is_eq-slice_cmp name e.0) (told_missed name es) h
    where
      by_case : (b : Bool) → is_eq (order name e.0) ≡ b → (lookup (is_at (order name)) es ≡ None → told_of tell none (map told_entry es) name ≡ none) → lookup (is_at (order name)) (e ∷ es) ≡ None → (if b then tell (told_entry e) else told_of tell none (map told_entry es) name) ≡ none
      by_case true s ih k = let found : Some e.1 ≡ None = rw s at k in cc
      by_case false s ih k = ih (rw s at k)

pub runs_found : (name : List ℕ) (es : List (List ℕ × UserSequence)) (u : UserSequence) → lookup (is_at (order name)) es ≡ Some u → runs_of (map told_entry es) name ≡ u.numbers.runs
runs_found = told_found (λ s. s.runs) [] (λ u. u.numbers.runs) (λ e. refl)

pub runs_missed : (name : List ℕ) (es : List (List ℕ × UserSequence)) → lookup (is_at (order name)) es ≡ None → runs_of (map told_entry es) name ≡ []
runs_missed = told_missed (λ s. s.runs) [] (λ u. u.numbers.runs) (λ e. refl)

pub public_found : (name : List ℕ) (es : List (List ℕ × UserSequence)) (u : UserSequence) → lookup (is_at (order name)) es ≡ Some u → public_of (map told_entry es) name ≡ u.public
public_found = told_found (λ s. s.public) true (λ u. u.public) (λ e. refl)

pub public_missed : (name : List ℕ) (es : List (List ℕ × UserSequence)) → lookup (is_at (order name)) es ≡ None → public_of (map told_entry es) name ≡ true
public_missed = told_missed (λ s. s.public) true (λ u. u.public) (λ e. refl)

none_removed : (name : List ℕ) (es : List (List ℕ × UserSequence)) → Precedes name (map told_entry es) → map told_entry (remove_entry (is_at (order name)) es) ≡ map told_entry es
none_removed name [] h = refl
none_removed name (e ∷ es) h = rw h.0 (ap (λ l. told_entry e ∷ l) (none_removed name es h.1))

-- without the sequence of a name
removed : (name : List ℕ) (p : Bool) (es : List (List ℕ × UserSequence)) → AreSequences (map told_entry es) → map told_entry (remove_entry (is_at (order name)) es) ≡ placed name p [] (map told_entry es)
removed name p [] h = refl
removed name p (e ∷ es) h = by_cases (order name e.0) refl (removed name p es h.2)
  where
    by_cases : (o : Ordering) → order name e.0 ≡ o → map told_entry (remove_entry (is_at (order name)) es) ≡ placed name p [] (map told_entry es) → map told_entry (cond (is_eq o) es (e ∷ remove_entry (is_at (order name)) es)) ≡ by_order o (told_entry e ∷ map told_entry es) (map told_entry es) (told_entry e ∷ placed name p [] (map told_entry es))
    by_cases Less is ih = ap (λ l. told_entry e ∷ l) (none_removed name es (before_all name e.0 (map told_entry es) is h.1))
    by_cases Equal is ih = refl
    by_cases Greater is ih = ap (λ l. told_entry e ∷ l) ih

none_in : (runs : List Run) → length runs == 0 ≡ true → runs ≡ []
none_in [] e = refl
none_in (r ∷ rs) e = let zero = eqb-true (length (r ∷ rs)) 0 e in absurd (omega arith)

pub removed_empty : (name : List ℕ) (p : Bool) (runs : List Run) (es : List (List ℕ × UserSequence)) → AreSequences (map told_entry es) → length runs == 0 ≡ true → map told_entry (remove_entry (is_at (order name)) es) ≡ placed name p runs (map told_entry es)
removed_empty name p runs es h e = removed name p es h ∙ ap (λ rs. placed name p rs (map told_entry es)) (sym (none_in runs e))

-- with one under a name
pub inserted : (name : List ℕ) (u : UserSequence) (es : List (List ℕ × UserSequence)) → length u.numbers.runs == 0 ≡ false → map told_entry (insert_entry order es name u) ≡ placed name u.public u.numbers.runs (map told_entry es)
inserted name u [] some = sym (some_alone name u.public u.numbers.runs some)
inserted name u (e ∷ es) some = by_cases (order name e.0) refl (inserted name u es some)
  where
    by_cases : (o : Ordering) → order name e.0 ≡ o → map told_entry (insert_entry order es name u) ≡ placed name u.public u.numbers.runs (map told_entry es) → map told_entry (match_ordering o ((name, u) ∷ e ∷ es) ((e.0, u) ∷ es) (e ∷ insert_entry order es name u)) ≡ by_order o (alone name u.public u.numbers.runs ++ (told_entry e ∷ map told_entry es)) (alone name u.public u.numbers.runs ++ map told_entry es) (told_entry e ∷ placed name u.public u.numbers.runs (map told_entry es))
    by_cases Less is ih = ap (λ l. l ++ (told_entry e ∷ map told_entry es)) (sym (some_alone name u.public u.numbers.runs some))
    by_cases Equal is ih =
        ap (λ n. told_entry (n, u) ∷ map told_entry es) (sym (same_is name e.0 (same_by name e.0 Equal is)))
        ∙ ap (λ l. l ++ map told_entry es) (sym (some_alone name u.public u.numbers.runs some))
    by_cases Greater is ih = ap (λ l. told_entry e ∷ l) ih

last_behind : (q : List ℕ) (ss : List Sequence) (s : Sequence) → Precedes q (ss ++ s ∷ []) → order q s.name ≡ Less
last_behind q [] s h = h.0
last_behind q (x ∷ xs) s h = last_behind q xs s h.1

itself : (name : List ℕ) (p : Bool) (runs : List Run) → 1 ≤ length runs → alone name p runs ≡ record { name = name; runs = runs; public = p } ∷ []
itself name p [] some = absurd (omega arith)
itself name p (r ∷ rs) some = refl

-- behind all others
pub placed_last : (ss : List Sequence) (s : Sequence) → AreSequences (ss ++ s ∷ []) → placed s.name s.public s.runs ss ≡ ss ++ s ∷ []
placed_last [] s h = itself s.name s.public s.runs h.0.some
placed_last (x ∷ xs) s h =
    let greater : order s.name x.name ≡ Greater = nat_list_cmp_total.antisymm s.name x.name ∙ ap ordering_reverse (last_behind x.name xs s h.1) in
    ap (λ o. by_order o (alone s.name s.public s.runs ++ (x ∷ xs)) (alone s.name s.public s.runs ++ xs) (x ∷ placed s.name s.public s.runs xs)) greater
    ∙ ap (λ l. x ∷ l) (placed_last xs s h.2)

precedes_front : (q : List ℕ) (ss ts : List Sequence) → Precedes q (ss ++ ts) → Precedes q ss
precedes_front q [] ts h = tt
precedes_front q (x ∷ xs) ts h = (h.0, precedes_front q xs ts h.1)

-- a front of sequences in order
pub front_valid : (ss ts : List Sequence) → AreSequences (ss ++ ts) → AreSequences ss
front_valid [] ts h = tt
front_valid (x ∷ xs) ts h = (h.0, precedes_front x.name xs ts h.1, front_valid xs ts h.2)

pub up_to_one : (ss : List Sequence) (s : Sequence) (ts all : List Sequence) → ss ++ (s ∷ ts) ≡ all → AreSequences all → AreSequences (ss ++ s ∷ [])
up_to_one ss s ts all e h = front_valid (ss ++ s ∷ []) ts (subst AreSequences (sym (append_assoc ss (s ∷ []) ts ∙ e)) h)
