-- What words choose is listed, and what marks make of sequences.
use Rattle.std.proofs.Common.{◌≡◌, ◌++◌, inl, inr, ℕ, Bool, true, false, List, Result, Ok, Err, refl, sym, ◌∙◌}
use Rattle.std.specs.Prelude.{map}
use Rattle.std.specs.Str.{encode_utf8_all}
use Rattle.mh_base.specs.Numbers.{IsMsgNum}
use Rattle.mh_sequences.specs.Marks.{marked, marked_cur, marked_public}
use Rattle.mh_sequences.specs.Runs.{AreRuns, has, numbers_of}
use Rattle.mh_sequences.specs.Sequences.{Marked, member, public_of}
use Rattle.mh_sequences.specs.declared.mark.Mark.{Mark}
use Rattle.mh_sequences.specs.declared.run.Run.{Run}
use Rattle.msg_ranges.specs.Selected.{selected}
use Rattle.msg_ranges.specs.Selection.{marks_of}
use Rattle.msg_ranges.specs.declared.fault.SelectFault.{SelectFault}
use Rattle.msg_ranges.proofs.Rising.{lists, lists_numbers}
use Rattle.msg_ranges.proofs.Within.{selected_within}
use Rattle.folder_files.proofs.Names.{both}
use Rattle.sequence_commits.specs.Marking.{marked_by, name_in_mark, names_of}
use Rattle.sequence_commits.specs.RunsOfAll.{runs_of_all}
use Rattle.sequence_commits.proofs.Gathering.{is_named, members_together}
use Rattle.sequence_commits.proofs.RunTests.{all_has, all_runs, none_outside}
use Rattle.command_stages.specs.Chosen.{chosen_in, folder_with, refused_by}
use Rattle.opening_plans.proofs.ExistingNumbers.{in_range_or}

pub as_selected : (words : List (List ℕ)) (r : Result (List ℕ) SelectFault) (numbers : List ℕ) → refused_by words r ≡ Ok numbers → r ≡ Ok numbers
as_selected words (Ok ns) numbers e = cc (e)
as_selected words (Err fault) numbers e = cc (e)

pub words_listed : (negation : List ℕ) (listing : List Run) (m : Marked) (words : List (List ℕ)) (numbers : List ℕ) → chosen_in (folder_with negation (numbers_of listing) (marks_of m)) words ≡ Ok numbers → (n : ℕ) → lists numbers n ≡ true → has listing n ≡ true
words_listed negation listing m words numbers is n e =
    sym (lists_numbers listing n)
    ∙ selected_within (folder_with negation (numbers_of listing) (marks_of m)) (map encode_utf8_all words) numbers (as_selected words (selected (folder_with negation (numbers_of listing) (marks_of m)) (map encode_utf8_all words)) numbers is) n e

-- numbers of runs are message numbers
pub has_ranged : (rs : List Run) → AreRuns rs → (n : ℕ) → has rs n ≡ true → IsMsgNum n
has_ranged rs valid n e = elim (in_range_or n) [
  | inl l ↦ (l.0, l.1)
  | inr out ↦ absurd (let no : true ≡ false = sym e ∙ none_outside rs n valid out in cc (no))
]

-- what a test's runs have passes the test, and the other way round
pub has_tested : (test : ℕ → Bool) (n : ℕ) → has (runs_of_all test) n ≡ true → test n ≡ true
has_tested test n e = let r = has_ranged (runs_of_all test) (all_runs test) n e in sym (all_has test n r.0 r.1) ∙ e

pub tested_has : (test : ℕ → Bool) (n : ℕ) → IsMsgNum n → test n ≡ true → has (runs_of_all test) n ≡ true
tested_has test n r e = all_has test n r.0 r.1 ∙ e

-- a member after a mark is one that the mark makes of those before
pub marked_member : (mark : Mark) (m : Marked) (t : List ℕ) (n : ℕ) → member (marked_by mark m).users t n ≡ true → marked mark t (member m.users t) n ≡ true
unfolding marked_by
marked_member mark m t n e =
    let numbers : List ℕ → ℕ → Bool = λ name. marked mark name (member m.users name) in
    let together = members_together numbers (λ name. marked_public mark name (public_of m.users name)) (name_in_mark mark ++ names_of m.users) t n in
    has_tested (numbers t) n (both (is_named (name_in_mark mark ++ names_of m.users) t) (has (runs_of_all (numbers t)) n) (sym together ∙ e)).1

pub marked_cur_is : (mark : Mark) (m : Marked) → (marked_by mark m).cur ≡ marked_cur mark m.cur
unfolding marked_by
marked_cur_is mark m = refl
