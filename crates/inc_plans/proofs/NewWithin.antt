-- Of which numbers sequences are once new messages are marked.
use Rattle.std.proofs.Common.{◌≡◌, inl, inr, ◌||◌, ◌++◌, ◌∷◌, [], ℕ, Bool, true, false, List, Some, sym, ◌∙◌, subst, bytes_eq}
use Rattle.std.specs.Prelude.{IfSome, if◌then◌else◌}
use Rattle.mh_base.specs.Numbers.{IsMsgNum}
use Rattle.mh_sequences.specs.Marks.{marked}
use Rattle.mh_sequences.specs.Runs.{has}
use Rattle.mh_sequences.specs.Sequences.{AreSequences, Marked, member}
use Rattle.mh_sequences.specs.declared.mark.Mark.TheVariants.{Cur}
use Rattle.mh_sequences.specs.declared.run.Run.{Run}
use Rattle.folder_files.proofs.Names.{or_case}
use Rattle.sequence_commits.specs.Marking.{marked_by, marked_by_all}
use Rattle.sequence_commits.proofs.MarkedOnce.{marked_valid}
use Rattle.opening_plans.proofs.ChosenListed.{marked_cur_is, marked_member}
use Rattle.inc_plans.specs.Inc.{add_mark, add_marks, cur_marks}
use Rattle.mh_base.proofs.NumberTests.{AreNumbers}

pub numbers_more : (ns : List ℕ) (n : ℕ) → AreNumbers ns → IsMsgNum n → AreNumbers (ns ++ n ∷ [])
numbers_more [] n f one = (one, tt)
numbers_more (k ∷ ns) n f one = (f.0, numbers_more ns n f.1 one)

-- the marks leave sequences of such numbers, where they bring none but such
module _ (Such : ℕ → Type 0) (runs : List Run) (new : (n : ℕ) → has runs n ≡ true → Such n) where
  abbrev Within_ : Marked → Type 0
  Within_ m = (t : List ℕ) (n : ℕ) → member m.users t n ≡ true → Such n

  one_within : (name t : List ℕ) (old : ℕ → Bool) (n : ℕ) → (old n ≡ true → Such n) → marked (add_mark runs name) t old n ≡ true → Such n
  one_within name t old n before e = go (bytes_eq t name) e
    where
      go : (b : Bool) → (if b then old n || has runs n else old n) ≡ true → Such n
      go true e = elim (or_case (old n) (has runs n) e) [ inl f ↦ before f | inr f ↦ new n f ]
      go false e = before e

  adds_within : (names : List (List ℕ)) (m : Marked) → Within_ m → Within_ (marked_by_all (add_marks runs names) m)
  unfolding marked_by_all
  adds_within [] m before t n e = before t n e
  adds_within (name ∷ names) m before t n e =
      adds_within names (marked_by (add_mark runs name) m) (λ s k f. one_within name s (member m.users s) k (before s k) (marked_member (add_mark runs name) m s k f)) t n e

  pub new_within : (c : Bool) (numbers : List ℕ) (names : List (List ℕ)) (m : Marked) → Within_ m → Within_ (marked_by_all (cur_marks c numbers ++ add_marks runs names) m)
  unfolding marked_by_all
  new_within false numbers names m before t n e = adds_within names m before t n e
  new_within true [] names m before t n e = adds_within names m before t n e
  new_within true (k ∷ numbers) names m before t n e = adds_within names (marked_by (Cur (Some k)) m) (λ s j f. before s j (marked_member (Cur (Some k)) m s j f)) t n e

-- and they leave them sequences
adds_valid : (runs : List Run) (names : List (List ℕ)) (m : Marked) → AreSequences m.users → AreSequences (marked_by_all (add_marks runs names) m).users
unfolding marked_by_all
adds_valid runs [] m valid = valid
adds_valid runs (name ∷ names) m valid = adds_valid runs names (marked_by (add_mark runs name) m) (marked_valid (add_mark runs name) m)

pub new_valid : (c : Bool) (numbers : List ℕ) (runs : List Run) (names : List (List ℕ)) (m : Marked) → AreSequences m.users → AreSequences (marked_by_all (cur_marks c numbers ++ add_marks runs names) m).users
unfolding marked_by_all
new_valid false numbers runs names m valid = adds_valid runs names m valid
new_valid true [] runs names m valid = adds_valid runs names m valid
new_valid true (k ∷ numbers) runs names m valid = adds_valid runs names (marked_by (Cur (Some k)) m) (marked_valid (Cur (Some k)) m)

-- the current message is the first of them, or it stays
adds_cur : (runs : List Run) (names : List (List ℕ)) (m : Marked) → (marked_by_all (add_marks runs names) m).cur ≡ m.cur
unfolding marked_by_all
adds_cur runs [] m = λ i. m.cur
adds_cur runs (name ∷ names) m = adds_cur runs names (marked_by (add_mark runs name) m) ∙ marked_cur_is (add_mark runs name) m

pub new_cur : (c : Bool) (numbers : List ℕ) (runs : List Run) (names : List (List ℕ)) (m : Marked) → AreNumbers numbers → IfSome m.cur IsMsgNum → IfSome (marked_by_all (cur_marks c numbers ++ add_marks runs names) m).cur IsMsgNum
unfolding marked_by_all
new_cur false numbers runs names m all valid = subst (λ z. IfSome z IsMsgNum) (sym (adds_cur runs names m)) valid
new_cur true [] runs names m all valid = subst (λ z. IfSome z IsMsgNum) (sym (adds_cur runs names m)) valid
new_cur true (k ∷ numbers) runs names m all valid = subst (λ z. IfSome z IsMsgNum) (sym (adds_cur runs names (marked_by (Cur (Some k)) m) ∙ marked_cur_is (Cur (Some k)) m)) all.0
