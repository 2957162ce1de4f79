-- Answers and what was meant.
use Rattle.std.proofs.Common.{◌≡◌, ℕ, ◌+◌, ◌-◌, ◌≤◌, Bool, true, false, List, [], ◌∷◌, length, refl, sym, ◌∙◌, ap, subst, arith, length-append}
use Rattle.std.specs.Prelude.{Result, Ok, Err, IfOk, ◌==◌}
use Rattle.std.specs.List.{range_with_len}
use Rattle.std.proofs.lemmas.List.FromFn.{length-range_with_len}
use Rattle.mh_sequences.specs.declared.run.Run.{Run}
use Rattle.mh_sequences.specs.Runs.{AreRuns, Numbers, numbers_of}
use Rattle.msg_ranges.specs.declared.fault.SelectFault.{SelectFault}
use Rattle.msg_ranges.specs.declared.fault.SelectFault.TheVariants.{BadSpec, Absent, EmptyRange, EmptySequence, Memory}
use Rattle.msg_ranges.specs.Choosing.{IsMeant, Gives, GivesSome}
use Rattle.msg_ranges.specs.Plain.{GivesList}
use Rattle.msg_ranges.specs.Selection.{some_or, unless_void}

pub if_ok : {A E : Type 0} (P Q : A → Type 0) (r : Result A E) → ((a : A) → P a → Q a) → IfOk r P → IfOk r Q
if_ok P Q (Ok a) f h = f a h
if_ok P Q (Err e) f h = tt

some_numbers : (rs : List Run) → AreRuns rs → (length rs == 0) ≡ false → 1 ≤ length (numbers_of rs)
some_numbers [] h e = cc
some_numbers (r ∷ rs) h e =
    let all = length-append (range_with_len r.from (r.to + 1 - r.from)) (numbers_of rs) in
    let here = length-range_with_len r.from (r.to + 1 - r.from) in
    omega (arith, h.1)

some_is : (fault : SelectFault) (xs : List ℕ) → 1 ≤ length xs → some_or fault xs ≡ Ok xs
some_is fault [] some = absurd (omega arith)
some_is fault (x ∷ xs) some = refl

pub some_of : (fault : SelectFault) (rs : List Run) → AreRuns rs → (length rs == 0) ≡ false → some_or fault (numbers_of rs) ≡ Ok (numbers_of rs)
some_of fault rs h e = some_is fault (numbers_of rs) (some_numbers rs h e)

-- the fault names the word at this place
abbrev pub IsOf : ℕ → SelectFault → Type 0
IsOf k (BadSpec j) = j ≡ k
IsOf k (Absent j) = j ≡ k
IsOf k (EmptyRange j) = j ≡ k
IsOf k (EmptySequence j) = j ≡ k
IsOf k Memory = ⊥

meant_self : (k : ℕ) (fault : SelectFault) → IsOf k fault → IsMeant k (Err fault) fault
meant_self k (BadSpec j) h = (h, refl)
meant_self k (Absent j) h = (h, refl)
meant_self k (EmptyRange j) h = (h, refl)
meant_self k (EmptySequence j) h = (h, refl)
meant_self k Memory h = tt

-- a set that is refused where it is empty
pub gives_some : (k : ℕ) (fault : SelectFault) (set : Numbers) (ys : List ℕ) (r : Result Numbers SelectFault) → IsOf k fault → numbers_of set.runs ≡ ys → GivesSome fault set r → Gives k (some_or fault ys) r
gives_some k fault set ys (Ok s) of e g =
    ap (some_or fault) (sym e) ∙ g.1 ∙ ap (λ z. Ok (numbers_of z.runs)) (sym g.0)
gives_some k fault set ys (Err f) of e g =
    let none : Err fault ≡ some_or fault ys = ap (some_or fault) (sym g.1 ∙ e) in
    subst (λ m. IsMeant k m f) none (subst (λ z. IsMeant k (Err fault) z) (sym g.0) (meant_self k fault of))

void_no : (k : ℕ) (end : Bool) (xs : List ℕ) (r : Result (List ℕ) SelectFault) → end ≡ false → unless_void k end xs r ≡ r
void_no k true xs r e = cc
void_no k false xs r e = refl

void_some : (k : ℕ) (end : Bool) (xs : List ℕ) (r : Result (List ℕ) SelectFault) → 1 ≤ length xs → unless_void k end xs r ≡ r
void_some k true [] r some = absurd (omega arith)
void_some k true (x ∷ xs) r some = refl
void_some k false xs r some = refl

-- a form without an end of the folder, or in a folder with a message
pub gives_inside : (k : ℕ) (end : Bool) (xs : List ℕ) (meant : Result (List ℕ) SelectFault) (r : Result Numbers SelectFault) → end ≡ false → Gives k meant r → Gives k (unless_void k end xs meant) r
gives_inside k end xs meant r e g = subst (λ m. Gives k m r) (sym (void_no k end xs meant e)) g

pub gives_among : (k : ℕ) (end : Bool) (rs : List Run) (meant : Result (List ℕ) SelectFault) (r : Result Numbers SelectFault) → AreRuns rs → (length rs == 0) ≡ false → Gives k meant r → Gives k (unless_void k end (numbers_of rs) meant) r
gives_among k end rs meant r h e g = subst (λ m. Gives k m r) (sym (void_some k end (numbers_of rs) meant (some_numbers rs h e))) g

given_some : (k : ℕ) (fault : SelectFault) (xs : List ℕ) → IsOf k fault → GivesList k (some_or fault xs) (some_or fault xs)
given_some k fault [] of = meant_self k fault of
given_some k fault (x ∷ xs) of = refl

-- the same of lists
pub gives_list : (k : ℕ) (fault : SelectFault) (xs ys : List ℕ) (r : Result (List ℕ) SelectFault) → IsOf k fault → xs ≡ ys → r ≡ some_or fault xs → GivesList k (some_or fault ys) r
gives_list k fault xs ys r of e is = subst (λ z. GivesList k (some_or fault ys) z) (ap (some_or fault) (sym e) ∙ sym is) (given_some k fault ys of)
