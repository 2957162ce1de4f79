-- Marks, one after another.
use Rattle.std.proofs.Common.{◌≡◌, ℕ, zero, suc, ◌+◌, ◌<◌, ◌≤◌, List, [], ◌∷◌, length, take, get_or, refl, ◌∙◌, ap, arith, add-one}
use Rattle.std.specs.Prelude.{Result, Ok, Err, OnErr}
use Rattle.mh_sequences.specs.declared.mark.Mark.{Mark}
use Rattle.mh_sequences.specs.Sequences.{Marked}
use Rattle.sequence_commits.specs.Marking.{marked_by, marked_by_all}

one_more : (ms : List Mark) (i : ℕ) (m : Mark) (old : Marked) → i < length ms → m ≡ get_or ms i m → marked_by m (marked_by_all (take i ms) old) ≡ marked_by_all (take (suc i) ms) old
unfolding marked_by_all
one_more [] i m old lt is = absurd (omega arith)
one_more (x ∷ xs) zero m old lt is = ap (λ y. marked_by y old) is
one_more (x ∷ xs) (suc i) m old lt is = one_more xs i m (marked_by x old) (omega arith) is

-- one more mark is done
pub more_marked : (ms : List Mark) (i : ℕ) (m : Mark) (old now new : Marked) → i < length ms → m ≡ get_or ms i m → new ≡ marked_by m now → now ≡ marked_by_all (take i ms) old → new ≡ marked_by_all (take (i + 1) ms) old
more_marked ms i m old now new lt is made was = rw add-one (made ∙ ap (marked_by m) was ∙ one_more ms i m old lt is)

whole : (ms : List Mark) (i : ℕ) → length ms ≤ i → take i ms ≡ ms
whole [] zero le = refl
whole [] (suc i) le = refl
whole (x ∷ xs) zero le = absurd (omega arith)
whole (x ∷ xs) (suc i) le = ap (λ l. x ∷ l) (whole xs i (omega arith))

-- all are done
pub all_marked : (ms : List Mark) (i : ℕ) (old now : Marked) → length ms ≤ i → now ≡ marked_by_all (take i ms) old → now ≡ marked_by_all ms old
all_marked ms i old now le was = was ∙ ap (λ l. marked_by_all l old) (whole ms i le)

-- none is done
pub none_marked : (ms : List Mark) (old : Marked) → old ≡ marked_by_all (take 0 ms) old
unfolding marked_by_all
none_marked ms old = refl

-- some are done where memory was wanting
pub some_marked : {A E : Type 0} (r : Result A E) (ms : List Mark) (i : ℕ) (old now new : Marked) → new ≡ now → now ≡ marked_by_all (take i ms) old → OnErr r ((k : ℕ) × (new ≡ marked_by_all (take k ms) old))
some_marked (Ok a) ms i old now new same was = tt
some_marked (Err e) ms i old now new same was = (i, same ∙ was)
