-- A selection and a refusal as one value.
use Rattle.std.proofs.Common.{◌≡◌, inl, inr, ℕ, zero, suc, ◌+◌, ◌==◌, ◌&&◌, Bool, true, false, Option, Some, None, List, [], ◌∷◌, take, refl, sym, ◌∙◌, ap, subst, arith}
use Rattle.std.specs.Prelude.{Result, Ok, Err, IfOk, IfErr, slice_get, filter}
use Rattle.std.specs.List.{list_any}
use Rattle.std.proofs.lemmas.Bool.{cases_lt}
use Rattle.std.proofs.lemmas.Bool.Decides.{nat_tests}
use Rattle.mh_sequences.specs.declared.run.Run.{Run}
use Rattle.mh_sequences.specs.Runs.{AreRuns, Numbers, has, numbers_of}
use Rattle.mh_sequences.proofs.Joining.{above_from}
use Rattle.mh_sequences.proofs.Removing.{has_below}
use Rattle.msg_ranges.specs.declared.fault.SelectFault.{SelectFault}
use Rattle.msg_ranges.specs.declared.fault.SelectFault.TheVariants.{BadSpec, Absent, EmptyRange, EmptySequence, Memory}
use Rattle.msg_ranges.specs.declared.spec.Spec.{Spec}
use Rattle.msg_ranges.specs.Forms.{plain_form, form_with_sequence, first_of, form_of}
use Rattle.msg_ranges.specs.Selected.{formed, coming, with_first, designated, every_number, all_united, selected, IsSelected}
use Rattle.msg_ranges.specs.Selecting.{Folder, ComesTo, AllDesignate, IsSelection, IsFirstRefused, IsRefusal}
use Rattle.msg_ranges.specs.Words.{Reads}
use Rattle.msg_ranges.proofs.Forming.{form_read, plain_reads, with_sequence_reads}
use Rattle.msg_ranges.proofs.Rising.{filtered}

form_reads : (prefix word : List ℕ) (spec : Spec) → form_of prefix word ≡ Some spec → Reads prefix word spec
form_reads prefix word spec e = go (plain_form word) refl e
  where
    go : (o : Option Spec) → plain_form word ≡ o → first_of o (form_with_sequence prefix word) ≡ Some spec → Reads prefix word spec
    go (Some s) p e = let same : s ≡ spec = cc in plain_reads prefix word spec (p ∙ ap (λ z. Some z) same)
    go None p e = with_sequence_reads prefix word spec p e

comes : (f : Folder) (k : ℕ) (word : List ℕ) (r : Result (List ℕ) SelectFault) → ComesTo f k word r → coming f k word ≡ r
comes f k word r (inl c) = ap (formed f k) (form_read f.prefix word c.0 c.1) ∙ c.2
comes f k word r (inr c) = go (form_of f.prefix word) refl
  where
    go : (o : Option Spec) → form_of f.prefix word ≡ o → formed f k o ≡ r
    go None e = sym c.1
    go (Some spec) e = absurd (c.0 spec (form_reads f.prefix word spec e))

designates : (f : Folder) (k : ℕ) (words sets : List (List ℕ)) → AllDesignate f k words sets → designated f k words ≡ Ok sets
unfolding designated
designates f k [] [] all = refl
designates f k [] (xs ∷ sets) all = absurd all
designates f k (word ∷ words) [] all = absurd all
designates f k (word ∷ words) (xs ∷ sets) all = λ i. with_first (comes f k word (Ok xs) all.0 i) (designates f (suc k) words sets all.1 i)

refuses : (f : Folder) (j : ℕ) (words : List (List ℕ)) (k : ℕ) (sets : List (List ℕ)) (word : List ℕ) (fault : SelectFault) → AllDesignate f j (take k words) sets → slice_get words k ≡ Some word → ComesTo f (j + k) word (Err fault) → designated f j words ≡ Err fault
unfolding designated
refuses f j [] k sets word fault all at is = cc
refuses f j (x ∷ xs) zero sets word fault all at is =
    let here : x ≡ word = cc in
    let place : j + 0 ≡ j = omega arith in
    let c : coming f j x ≡ Err fault = ap (coming f j) here ∙ comes f j word (Err fault) (subst (λ z. ComesTo f z word (Err fault)) place is) in
    ap (λ z. with_first z (designated f (suc j) xs)) c
refuses f j (x ∷ xs) (suc k) [] word fault all at is = absurd all
refuses f j (x ∷ xs) (suc k) (s ∷ sets) word fault all at is =
    let place : j + suc k ≡ suc j + k = omega arith in
    λ i. with_first (comes f j x (Ok s) all.0 i) (refuses f (suc j) xs k sets word fault all.1 at (subst (λ z. ComesTo f z word (Err fault)) place is) i)

refused_first : (f : Folder) (words : List (List ℕ)) (k : ℕ) (fault : SelectFault) → IsFirstRefused f words k fault → selected f words ≡ Err fault
refused_first f words k fault r =
    let place : k ≡ 0 + k = omega arith in
    ap all_united (refuses f 0 words k r.sets r.word fault r.before r.at (subst (λ z. ComesTo f z r.word (Err fault)) place r.refused))

pub every_runs : AreRuns every_number
unfolding every_number
every_runs = (omega arith, omega arith, omega arith, tt)

within : (runs : List Run) → AreRuns runs → (n : ℕ) → has runs n ≡ has every_number n && has runs n
unfolding every_number
within runs valid n = elim (cases_lt n 1) [
  | inl low ↦ outside (has_below 1 runs valid n low)
  | inr above ↦ elim (cases_lt 999999 n) [
    | inl high ↦ outside (above_from 1 runs valid n high)
    | inr below ↦ let inside_ : has every_number n ≡ true = grind (arith, nat_tests, above, below) in ap (λ b. b && has runs n) (sym inside_)
  ]
]
  where
    none : (b : Bool) → false ≡ b && false
    none true = refl
    none false = refl

    outside : has runs n ≡ false → has runs n ≡ has every_number n && has runs n
    outside e = e ∙ none (has every_number n) ∙ ap (λ b. has every_number n && b) (sym e)

-- the numbers of a set by a test
pub numbers_where : (runs : List Run) (test : ℕ → Bool) → AreRuns runs → ((n : ℕ) → has runs n ≡ test n) → numbers_of runs ≡ filter test (numbers_of every_number)
numbers_where runs test valid same = filtered runs every_number test valid every_runs (λ n. within runs valid n ∙ ap (λ b. has every_number n && b) (same n))

pub selected_is : (f : Folder) (words : List (List ℕ)) (runs : List Run) → AreRuns runs → IsSelection f words runs → selected f words ≡ Ok (numbers_of runs)
selected_is f words runs valid is =
    ap all_united (designates f 0 words is.sets is.each)
    ∙ ap (λ z. Ok z) (sym (numbers_where runs (λ n. list_any (λ xs. list_any (λ x. x == n) xs) is.sets) valid is.union))

pub refusal_is : (f : Folder) (words : List (List ℕ)) (fault : SelectFault) → IsRefusal f words fault → IsSelected (selected f words) (Err fault)
refusal_is f words (BadSpec k) r = refused_first f words k (BadSpec k) r
refusal_is f words (Absent k) r = refused_first f words k (Absent k) r
refusal_is f words (EmptyRange k) r = refused_first f words k (EmptyRange k) r
refusal_is f words (EmptySequence k) r = refused_first f words k (EmptySequence k) r
refusal_is f words Memory r = tt

-- the value of what was put together from the sets of all words
pub union_value : (f : Folder) (words : List (List ℕ)) (r : Result Numbers SelectFault) → IfOk r (λ s. IsSelection f words s.runs) → IfOk r (λ s. AreRuns s.runs) → IfErr r (λ e. e ≡ Memory) → IsSelected (selected f words) r
union_value f words (Ok s) is valid none = selected_is f words s.runs valid is
union_value f words (Err e) is valid memory = subst (λ z. IsSelected (selected f words) (Err z)) (sym memory) tt
