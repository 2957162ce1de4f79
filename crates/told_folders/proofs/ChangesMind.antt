-- Each step of a command that changes a folder's sequences minds the marks of all of them.
use Rattle.std.proofs.Common.{◌≡◌, ◌∷◌, [], ℕ, List, Result, Ok, Err, refl, sym, subst}
use Rattle.std.specs.Prelude.{IfSome}
use Rattle.mh_base.specs.Numbers.{IsMsgNum}
use Rattle.mh_sequences.specs.Sequences.{AreSequences, Marked}
use Rattle.folder_files.specs.Deeds.{Deed}
use Rattle.folder_files.specs.declared.place.Place.{Place}
use Rattle.folder_files.specs.declared.place.Place.TheVariants.{Folder, Mail}
use Rattle.file_plans.specs.Plan.{Hand, Plan, Return, after, bind, lifted, ◌>>=◌}
use Rattle.step_plans.specs.CommandFaults.{of_sink}
use Rattle.step_plans.specs.ContextCommit.{AreChanges}
use Rattle.step_plans.specs.Pledges.{MayAsk, Pledge}
use Rattle.step_plans.specs.declared.command_fault.CommandFault.{CommandFault}
use Rattle.step_plans.proofs.Going.{Outcome, okay}
use Rattle.sequence_commits.specs.Committing.{changed_sequences}
use Rattle.sequence_commits.specs.RunsOfAll.{set_among}
use Rattle.command_stages.specs.Current.{current_change, made_current}
use Rattle.command_stages.specs.Endings.{of_plan}
use Rattle.opening_plans.specs.FolderPledge.{told_within}
use Rattle.opening_plans.specs.Opening.{Opened, with_sequences}
use Rattle.opening_plans.proofs.AllMarks.{MindsAll}
use Rattle.opening_plans.proofs.BegunSeen.{HasSeenBegun, NoneUnlinked}
use Rattle.opening_plans.proofs.ChosenListed.{has_tested, words_listed}
use Rattle.opening_plans.proofs.CommitMinds.{Facts, IsTold, Within, changed_meets}
use Rattle.opening_plans.proofs.Meeting.{Meets, meets_end, meets_lifted, meets_more, meets_return, meets_say, meets_then}
use Rattle.opening_plans.proofs.ToldMarks.{InListing, told_cur, told_listed, told_valid}
use Rattle.opening_plans.proofs.WorkMinds.{Anyhow, current_meets, whole_meets}
use Rattle.told_folders.specs.Plans.{chosen_changed, folder_changed, lines_said, opened_told}
use Rattle.told_folders.specs.Pledge.{change_pledge}
use Rattle.told_folders.specs.Tasks.{IsListed, IsOrderly, Task, chosen_from}
use Rattle.opening_plans.proofs.ChosenListed.{has_ranged}

module _ (run : ℕ) (path : List ℕ) (task : Task) (orderly : IsOrderly task) (ok : AreChanges (current_change task.folder)) where
  abbrev w : Pledge
  w = change_pledge run path task

  abbrev Of : List ℕ → Type 0
  Of other = IsTold task.folder other

  abbrev p : Place
  p = Folder path task.folder

  abbrev mail : Place
  mail = Mail path

  abbrev M : {R : Type 0} → List Deed → Hand → Plan R → Outcome R → Type 0
  M own h plan Q = Meets (MayAsk w) (MindsAll Of run) own h plan Q

  lines_meet : (own : List Deed) (h : Hand) (lines : List (List ℕ)) → M own h (lines_said lines) (okay (λ later j u. later ≡ own))
  unfolding lines_said
  lines_meet own h [] = meets_return (MayAsk w) (MindsAll Of run) own h tt (okay (λ later j u. later ≡ own)) refl
  lines_meet own h (line ∷ lines) = meets_say (MayAsk w) (MindsAll Of run) own h of_sink (okay (λ later j u. later ≡ own)) line (λ told. lines_said lines) (lines_meet own h lines)

  module _ (own : List Deed) (h : Hand) (o : Opened) (b : HasSeenBegun path task.folder own o) where
    abbrev m : Marked
    m = told_within o.listing b.text b.context task.folder

    abbrev Known : List Deed → Type 0
    Known later = Facts w path task.folder b.names (InListing o.listing) later

    abbrev made : List ℕ → Marked
    made numbers = task.becomes o.listing numbers m

    chosen_has : (numbers : List ℕ) → chosen_from task o.listing m ≡ Ok numbers → IsListed o.listing (set_among numbers)
    chosen_has numbers is n e = words_listed task.negation o.listing m task.specs numbers is n (has_tested _ n e)

    made_within : (numbers : List ℕ) → chosen_from task o.listing m ≡ Ok numbers → Within (InListing o.listing) (made numbers)
    made_within numbers is z n sequence kind e =
        (n, kind, orderly.within o.listing numbers m (chosen_has numbers is) (λ name k f. told_listed o.listing b.text b.context task.folder name k f) sequence n e)

    made_valid : (numbers : List ℕ) → AreSequences (made numbers).users
    made_valid numbers = orderly.valid o.listing numbers m (told_valid o.listing b.text b.context task.folder)

    made_cur : (numbers : List ℕ) → chosen_from task o.listing m ≡ Ok numbers → IfSome (made numbers).cur IsMsgNum
    made_cur numbers is = orderly.current o.listing numbers m (λ n e. has_ranged o.listing b.runs n (words_listed task.negation o.listing m task.specs numbers is n e)) (told_cur o.listing b.text b.context task.folder)

    abbrev Marks_ : Outcome Opened
    Marks_ later j q = Known later

    commits : (numbers : List ℕ) → chosen_from task o.listing m ≡ Ok numbers
        → M own h (lifted (of_plan task.folder) (changed_sequences run p mail task.folder m (made numbers)) >>= (λ done. Return (Ok (with_sequences (made numbers) o)))) (okay Marks_)
    commits numbers is =
        meets_then (MayAsk w) (MindsAll Of run) own h (lifted (of_plan task.folder) (changed_sequences run p mail task.folder m (made numbers))) (λ done. Return (Ok (with_sequences (made numbers) o))) (λ later j u. Known later) Marks_
        (meets_lifted (MayAsk w) (MindsAll Of run) own h (of_plan task.folder) (changed_sequences run p mail task.folder m (made numbers)) (λ later j u. Known later)
        (changed_meets w path task.folder b.names (InListing o.listing) (made numbers) (made_valid numbers) (made_cur numbers is) (made_within numbers is) own h m b.facts))
        (λ later j u f. meets_return (MayAsk w) (MindsAll Of run) later j (with_sequences (made numbers) o) (okay Marks_) f)

    chosen_by : (value : Result (List ℕ) CommandFault) → chosen_from task o.listing m ≡ value
        → M own h (after (λ numbers. lifted (of_plan task.folder) (changed_sequences run p mail task.folder m (made numbers)) >>= (λ done. Return (Ok (with_sequences (made numbers) o)))) value) (okay Marks_)
    chosen_by (Ok numbers) is = commits numbers is
    chosen_by (Err e) is = meets_end (MayAsk w) (MindsAll Of run) own h e Marks_

    chosen_at : (q : Place) (n : List ℕ) (s : Marked) → q ≡ p → n ≡ task.folder → s ≡ m
        → M own h (Return (chosen_from task o.listing s) >>= (λ numbers. lifted (of_plan task.folder) (changed_sequences run q mail n s (task.becomes o.listing numbers s)) >>= (λ done. Return (Ok (with_sequences (task.becomes o.listing numbers s) o))))) (okay Marks_)
    unfolding Meets bind ◌>>=◌
    chosen_at q n s place name is = rw (place, name, is) (chosen_by (chosen_from task o.listing m) refl)

    chosen_meets : M own h (chosen_changed run path task o) (okay Marks_)
    unfolding chosen_changed
    chosen_meets = chosen_at o.place o.folder o.sequences b.place b.name b.sequences

    anyhow : {R : Type 0} (plan : Plan R) (before : List Deed) (i : Hand) (Q : Outcome R) → M before i plan Q → M before i plan Anyhow
    anyhow plan before i Q f = meets_more (MayAsk w) (MindsAll Of run) before i plan Q Anyhow (λ later j r q. tt) f

    opened_okay : M own h (opened_told run path task o) (okay (λ later j u. Known later))
    unfolding opened_told
    opened_okay =
        meets_then (MayAsk w) (MindsAll Of run) own h (chosen_changed run path task o) (λ marked. lines_said (task.lines marked.listing marked.sequences) >>= (λ told. made_current run path task.folder)) Marks_ (λ later j u. Known later) chosen_meets
        (λ later j q f.
        meets_then (MayAsk w) (MindsAll Of run) later j (lines_said (task.lines q.listing q.sequences)) (λ told. made_current run path task.folder) (λ last i u. last ≡ later) (λ last i u. Known last) (lines_meet later j (task.lines q.listing q.sequences))
        (λ last i u e. current_meets w path task.folder b.names (InListing o.listing) ok last i (subst Known (sym e) f)))

    pub opened_meets : M own h (opened_told run path task o) Anyhow
    opened_meets = anyhow (opened_told run path task o) own h (okay (λ later j u. Known later)) opened_okay

  -- the whole
  pub changes_meet : (own : List Deed) (h : Hand) → NoneUnlinked p own → M own h (folder_changed run path task) Anyhow
  unfolding folder_changed
  changes_meet own h none = whole_meets w path task.folder (MindsAll Of run) (λ before s f. f) (opened_told run path task) (λ before i o b. opened_meets before i o b) own h none
