-- What `mark` makes of sequences is in order, and each of its lines says something.
use Rattle.std.proofs.Common.{◌≡◌, ◌++◌, ◌&&◌, ◌||◌, ◌∷◌, [], inl, inr, ℕ, Bool, true, false, List, Option, None, Some, map, not, refl, sym, ◌∙◌, subst, bytes_eq}
use Rattle.std.specs.Prelude.{IfSome, codes, filter, if◌then◌else◌}
use Rattle.mh_base.specs.Numbers.{IsMsgNum}
use Rattle.mh_sequences.specs.Marks.{marked, marked_cur}
use Rattle.mh_sequences.specs.Printing.{list_text}
use Rattle.mh_sequences.specs.Runs.{has}
use Rattle.mh_sequences.specs.Sequences.{Marked, Sequence, member}
use Rattle.mh_sequences.specs.declared.run.Run.{Run}
use Rattle.folder_files.proofs.Names.{both, or_case}
use Rattle.sequence_commits.specs.Marking.{marked_by, marked_by_all}
use Rattle.sequence_commits.specs.RunsOfAll.{set_among}
use Rattle.sequence_commits.proofs.MarkedOnce.{all_valid}
use Rattle.opening_plans.proofs.ChosenListed.{has_tested, marked_cur_is, marked_member}
use Rattle.told_folders.specs.Tasks.{AreSome, IsListed, IsOrderly}
use Rattle.mark_command.specs.Lines.{cur_line, cur_lines, is_beside_cur, line_of, lines_beside, lines_for, privacy, sequence_of, spaced}
use Rattle.mark_command.specs.Mark.{lines_if, look_task, mark_task}
use Rattle.mark_command.specs.Marking.{mark_with, marks_for, numbers_marked}
use Rattle.mark_command.specs.declared.job.MarkAct.{MarkAct}
use Rattle.mark_command.specs.declared.job.MarkAct.TheVariants as act
use Rattle.mark_command.specs.declared.job.MarkJob.{MarkJob}

-- no line is empty
line_some : (s : Sequence) → line_of s ≡ [] → ⊥
unfolding line_of
line_some s e = ends s.name (privacy s.public) (spaced (list_text s.runs)) e
  where
    ends : (a b c : List ℕ) → (a ++ b ++ codes ":" ++ c ++ 10 ∷ []) ≡ [] → ⊥
    ends [] [] c q = cc
    ends [] (x ∷ b) c q = cc
    ends (x ∷ a) b c q = cc

cur_some : (n : ℕ) → cur_line n ≡ [] → ⊥
unfolding cur_line
cur_some n e = cc

some_both : (xs bs : List (List ℕ)) → AreSome xs → AreSome bs → AreSome (xs ++ bs)
some_both [] bs f g = g
some_both (x ∷ xs) bs f g = (f.0, some_both xs bs f.1 g)

some_lines : (ss : List Sequence) → AreSome (map line_of ss)
some_lines [] = tt
some_lines (s ∷ ss) = (line_some s, some_lines ss)

some_cur : (cur : Option ℕ) → AreSome (cur_lines cur)
some_cur None = tt
some_cur (Some n) = (cur_some n, tt)

some_named : (m : Marked) (names : List (List ℕ)) → AreSome (map (λ n. line_of (sequence_of m n)) names)
some_named m [] = tt
some_named m (n ∷ names) = (line_some (sequence_of m n), some_named m names)

some_for : (names : List (List ℕ)) (m : Marked) → AreSome (lines_for names m)
some_for [] m = some_both (lines_beside true m.users) _ (some_lines (filter (is_beside_cur true) m.users)) (some_both (cur_lines m.cur) _ (some_cur m.cur) (some_lines (filter (is_beside_cur false) m.users)))
some_for (name ∷ names) m = some_named m (name ∷ names)

some_if : (list : Bool) (lines : List (List ℕ)) → AreSome lines → AreSome (lines_if list lines)
some_if true lines f = f
some_if false lines f = tt

-- and the current message as it was
module _ (a : MarkAct) (public : Option Bool) (runs : List Run) where
  one_cur : (act_ : MarkAct) (name : List ℕ) (cur : Option ℕ) → marked_cur (mark_with act_ public runs name) cur ≡ cur
  one_cur act.Add name cur = refl
  one_cur act.Delete name cur = refl
  one_cur act.Set name cur = refl
  one_cur act.SetOthers name cur = refl

  all_cur : (names : List (List ℕ)) (m : Marked) → (marked_by_all (map (mark_with a public runs) names) m).cur ≡ m.cur
  unfolding marked_by_all
  all_cur [] m = refl
  all_cur (name ∷ names) m = all_cur names (marked_by (mark_with a public runs name) m) ∙ (marked_cur_is (mark_with a public runs name) m ∙ one_cur a name m.cur)

-- marks on listed numbers leave sequences of listed numbers
module _ (listing : List Run) (a : MarkAct) (public : Option Bool) (runs : List Run) (listed : IsListed listing runs) where
  one_within : (act_ : MarkAct) (name t : List ℕ) (old : ℕ → Bool) (n : ℕ) → (old n ≡ true → has listing n ≡ true) → marked (mark_with act_ public runs name) t old n ≡ true → has listing n ≡ true
  one_within act.Add name t old n before e = go (bytes_eq t name) e
    where
      go : (b : Bool) → (if b then old n || has runs n else old n) ≡ true → has listing n ≡ true
      go true e = elim (or_case (old n) (has runs n) e) [ inl f ↦ before f | inr f ↦ listed n f ]
      go false e = before e
  one_within act.Delete name t old n before e = go (bytes_eq t name) e
    where
      go : (b : Bool) → (if b then old n && not (has runs n) else old n) ≡ true → has listing n ≡ true
      go true e = before (both (old n) (not (has runs n)) e).0
      go false e = before e
  one_within act.Set name t old n before e = go (bytes_eq t name) e
    where
      go : (b : Bool) → (if b then has runs n else old n) ≡ true → has listing n ≡ true
      go true e = listed n e
      go false e = before e
  one_within act.SetOthers name t old n before e = go (bytes_eq t name) e
    where
      go : (b : Bool) → (if b then has runs n else old n) ≡ true → has listing n ≡ true
      go true e = listed n e
      go false e = before e

  all_within : (names : List (List ℕ)) (m : Marked) → ((t : List ℕ) (n : ℕ) → member m.users t n ≡ true → has listing n ≡ true)
      → (t : List ℕ) (n : ℕ) → member (marked_by_all (map (mark_with a public runs) names) m).users t n ≡ true → has listing n ≡ true
  unfolding marked_by_all
  all_within [] m before t n e = before t n e
  all_within (name ∷ names) m before t n e =
      all_within names (marked_by (mark_with a public runs name) m) (λ s k f. one_within a name s (member m.users s) k (before s k) (marked_member (mark_with a public runs name) m s k f)) t n e

-- the numbers of which a mark speaks are listed
marked_listed : (a : MarkAct) (listing chosen : List Run) → IsListed listing chosen → IsListed listing (numbers_marked a listing chosen)
marked_listed act.Add listing chosen f n e = f n e
marked_listed act.Delete listing chosen f n e = f n e
marked_listed act.Set listing chosen f n e = f n e
marked_listed act.SetOthers listing chosen f n e = (both (has listing n) (not (has chosen n)) (has_tested (λ k. has listing k && not (has chosen k)) n e)).0

pub mark_orderly : (job : MarkJob) (a : MarkAct) → IsOrderly (mark_task job a)
mark_orderly job a = record {
  valid = λ listing numbers m valid. all_valid (marks_for job a listing (set_among numbers)) m valid;
  within = λ listing numbers m listed before name n e. all_within listing a job.public (numbers_marked a listing (set_among numbers)) (marked_listed a listing (set_among numbers) listed) job.names m before name n e;
  current = λ listing numbers m are cur. subst (λ z. IfSome z IsMsgNum) (sym (all_cur a job.public (numbers_marked a listing (set_among numbers)) job.names m)) cur;
  lines = λ listing m. some_if job.list (lines_for job.names m) (some_for job.names m);
}

pub look_orderly : (job : MarkJob) → IsOrderly (look_task job)
look_orderly job = record {
  valid = λ listing numbers m valid. valid;
  within = λ listing numbers m listed before name n e. before name n e;
  current = λ listing numbers m are cur. cur;
  lines = λ listing m. some_for job.names m;
}
