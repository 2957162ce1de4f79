-- What words choose: ascending numbers of messages that are there.
use Rattle.std.proofs.Common.{◌≡◌, inl, inr, ℕ, true, false, List, [], ◌∷◌, Result, Ok, Err, sym, ◌∙◌, subst}
use Rattle.std.specs.Prelude.{◌==◌, map}
use Rattle.std.specs.List.{list_any}
use Rattle.std.specs.Str.{encode_utf8_all}
use Rattle.mh_base.specs.Numbers.{IsMsgNum}
use Rattle.mh_sequences.specs.Runs.{AreRuns, has, numbers_of}
use Rattle.mh_sequences.specs.declared.run.Run.{Run}
use Rattle.mh_sequences.specs.Sequences.{Marked}
use Rattle.msg_ranges.specs.Selected.{all_united, designated, every_number, selected, united}
use Rattle.msg_ranges.specs.Selecting.{Folder}
use Rattle.msg_ranges.specs.Selection.{marks_of}
use Rattle.msg_ranges.specs.declared.fault.SelectFault.{SelectFault}
use Rattle.msg_ranges.proofs.Rising.{Rise, lists, lists_numbers, rise_filter, rise_runs, first_listed, other_listed, first_or}
use Rattle.msg_ranges.proofs.Selected.{every_runs}
use Rattle.msg_ranges.proofs.Within.{selected_within}
use Rattle.sequence_commits.proofs.RunTests.{none_outside}
use Rattle.command_stages.specs.Chosen.{folder_with}
use Rattle.opening_plans.proofs.ExistingNumbers.{in_range_or}
use Rattle.opening_plans.proofs.ChosenListed.{as_selected}
use Rattle.refile_plans.specs.Rmm.{chosen_from}
use Rattle.refile_plans.specs.declared.job.RmmJob.{RmmJob}
use Rattle.mh_base.proofs.NumberTests.{AreNumbers}

selected_rises : (f : Folder) (words : List (List ℕ)) (numbers : List ℕ) → selected f words ≡ Ok numbers → Rise 1 numbers
selected_rises f words numbers is = go (designated f 0 words) is
  where
    go : (r : Result (List (List ℕ)) SelectFault) → all_united r ≡ Ok numbers → Rise 1 numbers
    go (Ok sets) e =
        let same : united sets ≡ numbers = cc (e) in
        subst (Rise 1) same (rise_filter (λ n. list_any (λ xs. list_any (λ x. x == n) xs) sets) 1 (numbers_of every_number) (rise_runs 1 every_number every_runs))
    go (Err fault) e = cc (e)

module _ (job : RmmJob) (listing : List Run) (m : Marked) (numbers : List ℕ) (is : chosen_from job listing m ≡ Ok numbers) where
  abbrev f : Folder
  f = folder_with job.negation (numbers_of listing) (marks_of m)

  selection : selected f (map encode_utf8_all job.specs) ≡ Ok numbers
  selection = as_selected job.specs (selected f (map encode_utf8_all job.specs)) numbers is

  pub chosen_rise : Rise 1 numbers
  chosen_rise = selected_rises f (map encode_utf8_all job.specs) numbers selection

  pub chosen_listed : (n : ℕ) → lists numbers n ≡ true → has listing n ≡ true
  chosen_listed n e = sym (lists_numbers listing n) ∙ selected_within f (map encode_utf8_all job.specs) numbers selection n e

-- numbers of runs are message numbers
pub in_runs : (rs : List Run) → AreRuns rs → (n : ℕ) → has rs n ≡ true → IsMsgNum n
in_runs rs valid n e = elim (in_range_or n) [
  | inl l ↦ (l.0, l.1)
  | inr out ↦ absurd (let no : true ≡ false = sym e ∙ none_outside rs n valid out in cc (no))
]

all_numbers : (ns : List ℕ) → ((n : ℕ) → lists ns n ≡ true → IsMsgNum n) → AreNumbers ns
all_numbers [] f = tt
all_numbers (n ∷ ns) f = (f n (first_listed n ns), all_numbers ns (λ m e. f m (other_listed n m ns e)))

pub chosen_numbers : (job : RmmJob) (listing : List Run) (m : Marked) (numbers : List ℕ) → chosen_from job listing m ≡ Ok numbers → AreRuns listing → AreNumbers numbers
chosen_numbers job listing m numbers is valid = all_numbers numbers (λ n e. in_runs listing valid n (chosen_listed job listing m numbers is n e))

-- each of these numbers is a message number
pub listed_one : (ns : List ℕ) → AreNumbers ns → (k : ℕ) → lists ns k ≡ true → IsMsgNum k
listed_one [] valid k e = cc (e)
listed_one (n ∷ ns) valid k e = elim (first_or n k ns e) [ inl same ↦ subst IsMsgNum same valid.0 | inr there ↦ listed_one ns valid.1 k there ]
