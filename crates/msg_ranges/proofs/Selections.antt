-- Words one after another.
use Rattle.std.proofs.Common.{◌≡◌, ℕ, zero, suc, ◌+◌, ◌<◌, ◌≤◌, Some, List, [], ◌∷◌, ◌++◌, length, map, get_or, take, refl, sym, ◌∙◌, ap, subst, arith, add-one}
use Rattle.std.specs.Prelude.{◌||◌, slice_get, Ok, Err}
use Rattle.std.specs.List.{list_any}
use Rattle.std.proofs.lemmas.List.Folds.{list_any-append}
use Rattle.mh_sequences.specs.declared.run.Run.{Run}
use Rattle.mh_sequences.specs.Runs.{has, numbers_of}
use Rattle.mh_sequences.proofs.Bools.{or_nothing}
use Rattle.msg_ranges.specs.declared.fault.SelectFault.{SelectFault}
use Rattle.msg_ranges.specs.declared.fault.SelectFault.TheVariants.{BadSpec, Absent, EmptyRange, EmptySequence, Memory}
use Rattle.msg_ranges.specs.Choosing.{IsComing}
use Rattle.msg_ranges.specs.Selecting.{Folder, ComesTo, AllDesignate, IsSelection, IsFirstRefused, IsRefusal}
use Rattle.msg_ranges.proofs.Rising.{lists, lists_numbers}

pub word_at : (f : List ℕ → List ℕ) (specs : List (List ℕ)) (i : ℕ) (w : List ℕ) → i < length specs → w ≡ get_or specs i w → slice_get (map f specs) i ≡ Some (f w)
word_at f [] i w lt e = absurd (omega arith)
word_at f (x ∷ xs) zero w lt e = ap (λ z. Some (f z)) (sym e)
word_at f (x ∷ xs) (suc i) w lt e = word_at f xs i w (omega arith) e

pub all_taken : (f : List ℕ → List ℕ) (specs : List (List ℕ)) (i : ℕ) → length specs ≤ i → take i (map f specs) ≡ map f specs
all_taken f [] zero le = refl
all_taken f [] (suc i) le = refl
all_taken f (x ∷ xs) zero le = absurd (omega arith)
all_taken f (x ∷ xs) (suc i) le = ap (λ l. f x ∷ l) (all_taken f xs i (omega arith))

one_more : (words : List (List ℕ)) (i : ℕ) (w : List ℕ) → slice_get words i ≡ Some w → take (suc i) words ≡ take i words ++ (w ∷ [])
one_more [] i w e = cc
one_more (x ∷ xs) zero w e = let same : x ≡ w = cc in ap (λ z. z ∷ []) same
one_more (x ∷ xs) (suc i) w e = ap (λ l. x ∷ l) (one_more xs i w e)

so_many : (words : List (List ℕ)) (i : ℕ) (w : List ℕ) → slice_get words i ≡ Some w → length (take i words) ≡ i
so_many [] i w e = cc
so_many (x ∷ xs) zero w e = refl
so_many (x ∷ xs) (suc i) w e = ap suc (so_many xs i w e)

designate_more : (f : Folder) (k j : ℕ) (words sets : List (List ℕ)) (w xs : List ℕ) → j ≡ k + length words → AllDesignate f k words sets → ComesTo f j w (Ok xs) → AllDesignate f k (words ++ (w ∷ [])) (sets ++ (xs ∷ []))
designate_more f k j [] [] w xs e all here = let same : j ≡ k = omega arith in (subst (λ z. ComesTo f z w (Ok xs)) same here, tt)
designate_more f k j [] (s ∷ sets) w xs e all here = elim all [ ]
designate_more f k j (v ∷ words) [] w xs e all here = elim all [ ]
designate_more f k j (v ∷ words) (s ∷ sets) w xs e all here = let more : j ≡ suc k + length words = omega arith in (all.0, designate_more f (suc k) j words sets w xs more all.1 here)

-- nothing is selected by no words
pub none_selected : (f : Folder) (words : List (List ℕ)) (runs : List Run) → runs ≡ [] → IsSelection f (take 0 words) runs
none_selected f words runs e = record { sets = []; each = tt; union = λ n. ap (λ l. has l n) e }

-- one word more
pub select_more : (f : Folder) (words : List (List ℕ)) (i : ℕ) (w : List ℕ) (old more new : List Run) → slice_get words i ≡ Some w → IsSelection f (take i words) old → ComesTo f i w (Ok (numbers_of more)) → ((n : ℕ) → has new n ≡ has old n || has more n) → IsSelection f (take (i + 1) words) new
select_more f words i w old more new at is here put =
    rw (add-one i, one_more words i w at) (record {
      sets = is.sets ++ (numbers_of more ∷ []);
      each = designate_more f 0 i (take i words) is.sets w (numbers_of more) (let n = so_many words i w at in omega arith) is.each here;
      union = λ n.
          put n
          ∙ (λ j. is.union n j || sym (lists_numbers more n) j)
          ∙ ap (λ b. list_any (λ xs. lists xs n) is.sets || b) (sym (or_nothing (lists (numbers_of more) n)))
          ∙ sym (list_any-append (λ xs. lists xs n) is.sets (numbers_of more ∷ []));
    })

-- other runs of the same numbers
pub same_selection : (f : Folder) (words : List (List ℕ)) (old new : List Run) → IsSelection f words old → ((n : ℕ) → has new n ≡ has old n) → IsSelection f words new
same_selection f words old new is same = record { sets = is.sets; each = is.each; union = λ n. same n ∙ is.union n }

first_refused : (f : Folder) (words : List (List ℕ)) (i j : ℕ) (w : List ℕ) (old : List Run) (fault : SelectFault) → slice_get words i ≡ Some w → IsSelection f (take i words) old → j ≡ i → ComesTo f i w (Err fault) → IsFirstRefused f words j fault
first_refused f words i j w old fault at is e here = subst (λ k. IsFirstRefused f words k fault) (sym e) (record { sets = is.sets; before = is.each; word = w; at = at; refused = here })

-- a word that is refused
pub refuse : (f : Folder) (words : List (List ℕ)) (i : ℕ) (w : List ℕ) (old : List Run) (fault : SelectFault) → slice_get words i ≡ Some w → IsSelection f (take i words) old → IsComing f i w fault → IsRefusal f words fault
refuse f words i w old (BadSpec j) at is here = first_refused f words i j w old (BadSpec j) at is here.0 here.1
refuse f words i w old (Absent j) at is here = first_refused f words i j w old (Absent j) at is here.0 here.1
refuse f words i w old (EmptyRange j) at is here = first_refused f words i j w old (EmptyRange j) at is here.0 here.1
refuse f words i w old (EmptySequence j) at is here = first_refused f words i j w old (EmptySequence j) at is here.0 here.1
refuse f words i w old Memory at is here = tt
