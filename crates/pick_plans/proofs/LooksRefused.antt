-- Where a `pick` that marks nothing refuses its words, or no message matches, it is by what it read.
use Rattle.std.proofs.Common.{◌≡◌, [], ℕ, List, Result, Ok, Err, inl, inr, refl, sym, subst}
use Rattle.mh_base.specs.Entries.{entry_text}
use Rattle.mh_base.specs.declared.entry.Entry.TheVariants.{Sequences}
use Rattle.mh_profile.specs.declared.named_value.NamedValue.{NamedValue}
use Rattle.mh_sequences.specs.Runs.{numbers_of}
use Rattle.mh_sequences.specs.Sequences.{Marked}
use Rattle.msg_ranges.specs.Selection.{marks_of}
use Rattle.folder_files.specs.Deeds.{Deed}
use Rattle.folder_files.specs.declared.place.Place.{Place}
use Rattle.folder_files.specs.declared.place.Place.TheVariants.{Folder, Mail}
use Rattle.folder_files.specs.declared.refusal.Refusal.{Refusal}
use Rattle.folder_files.specs.declared.refusal.Refusal.TheVariants as refusal
use Rattle.folder_files.specs.declared.step.Answer.{Answer}
use Rattle.folder_files.specs.declared.step.Answer.TheVariants as answer
use Rattle.folder_files.specs.declared.step.Step.TheVariants as step
use Rattle.file_plans.specs.Plan.{Hand, ◌>>=◌}
use Rattle.step_plans.specs.ContextCommit.{LIMIT_BYTES}
use Rattle.step_plans.specs.Hands.{temp_name}
use Rattle.step_plans.specs.declared.command_fault.CommandFault.{CommandFault}
use Rattle.step_plans.specs.declared.command_fault.CommandFault.TheVariants as fault
use Rattle.step_plans.specs.declared.fault.PlanFault.{PlanFault}
use Rattle.step_plans.specs.declared.fault.PlanFault.TheVariants as plan
use Rattle.step_plans.proofs.Coming.{Comes, comes_more, comes_then}
use Rattle.step_plans.proofs.Ending.{unmade_more}
use Rattle.step_plans.proofs.Going.{Outcome}
use Rattle.command_stages.specs.Chosen.{folder_with}
use Rattle.command_stages.specs.Current.{made_current}
use Rattle.command_stages.specs.Endings.{of_plan}
use Rattle.mh_looks.proofs.Ending.{by_choice, comes_at, name_of}
use Rattle.opening_plans.specs.Reads.{TellsText}
use Rattle.told_folders.proofs.FrontComes.{IsUnmade, after_both, current_comes, front_comes, reading, unmade_both}
use Rattle.told_folders.specs.Tasks.{listed_runs, sequences_listed}
use Rattle.pick_plans.specs.Lines.{lines_for}
use Rattle.pick_plans.specs.Pick.{chosen_seen, found_told, pick_looks, said_if, some_found}
use Rattle.pick_plans.specs.PickAnswers.{IsRefusedByListing, ShowsListing}
use Rattle.pick_plans.specs.declared.job.PickJob.{PickJob}
use Rattle.pick_plans.proofs.ListedFound.{found_listed}
use Rattle.pick_plans.proofs.PickEnds.{FindsSome, found_comes, said_comes}
use Rattle.pick_plans.proofs.Tested.{AreTested, Stopped, is_gone, reading_kept, too_long}
use Rattle.mh_profile.specs.Reading.{entries_seen}

module _ (run : ℕ) (mail : List ℕ) (job : PickJob) (h : Hand) where
  abbrev place : Place
  place = Folder mail job.folder

  abbrev entries : List NamedValue
  entries = entries_seen h.context

  abbrev pub Shows : CommandFault → List Deed → Type 0
  Shows e own = ShowsListing mail job entries e own

  abbrev pub Refuses : {A : Type 0} → Outcome (Result A CommandFault)
  Refuses later j (Ok a) = Unit {0}
  Refuses later j (Err e) = Shows e later

  abbrev Unmade : List Deed → Type 0
  Unmade own = IsUnmade mail job.folder h run own

  -- a fault of a plan is no refusal of words
  of_plans : (e : PlanFault) (own : List Deed) → Shows (of_plan job.folder e) own
  of_plans plan.Faulted own = tt
  of_plans (plan.Locked q) own = tt
  of_plans (plan.Meddled q x) own = tt
  of_plans plan.Full own = tt
  of_plans (plan.Absent q) own = tt
  of_plans (plan.TooLarge l) own = tt
  of_plans plan.Memory own = tt

  told_comes : (own : List Deed) → Unmade own → (found : List ℕ) → Comes own h (found_told run mail job found) Refuses
  unfolding found_told
  told_comes own unmade found =
      comes_then own h (said_if job.list (lines_for found)) (λ told. made_current run mail job.folder) (λ later j r. (later ≡ own) × (j ≡ h) × (r ≡ Ok tt)) Refuses
      (said_comes own h (λ later j r. (later ≡ own) × (j ≡ h) × (r ≡ Ok tt)) (refl, refl, refl) job.list (lines_for found))
      (λ later j u q. comes_at later own j h (made_current run mail job.folder) Refuses q.0 q.1 (current_comes mail job.folder h run Shows of_plans own unmade)) (λ later j e q. absurd (cc (q.2)))

  module _ (names : List (List ℕ)) (text : List ℕ) (a : Answer) (older : List Deed) (told : TellsText place (entry_text Sequences) text (reading mail job.folder h a)) (unmade : Unmade (after_both mail job.folder h names a older)) where
    abbrev own : List Deed
    own = after_both mail job.folder h names a older

    abbrev m : Marked
    m = sequences_listed names text entries job.folder

    module _ (numbers : List ℕ) (is : chosen_seen job names text entries ≡ Ok numbers) where
      abbrev EndsSome : Outcome (Result (List ℕ) CommandFault)
      EndsSome later j (Ok found) = AreTested place job.expr [] numbers own later found × (j ≡ h)
      EndsSome later j (Err e) = Shows e later

      stopped_shows : (e : CommandFault) (later : List Deed) → Stopped place numbers own e later → Shows e later
      stopped_shows _ _ (too_long n l ms) = tt
      stopped_shows _ _ (is_gone n ms among) = tt

      found_shows : (later : List Deed) (j : Hand) (r : Result (List ℕ) CommandFault) → FindsSome place job numbers own h later j r → EndsSome later j r
      found_shows later j (Ok found) q = q
      found_shows later j (Err e) (inl q) = subst (λ z. Shows z later) (sym q.0) (found_listed mail job entries names text (reading mail job.folder h a) older own refl told numbers is later [] q.1)
      found_shows later j (Err e) (inr q) = stopped_shows e later q

      unmade_after : (later : List Deed) (found : List ℕ) → AreTested place job.expr [] numbers own later found → Unmade later
      unmade_after later found t =
          subst Unmade (sym t.read)
          (reading_kept place Unmade (λ k. Unit {0}) (λ before k text_ fine f. unmade_more (Mail mail) (temp_name run h.next) (step.Read place (name_of k) LIMIT_BYTES) (answer.Content text_) before (λ b e. cc (e)) f) t.messages (λ k e. tt) own unmade)

      numbers_come : Comes own h (some_found place job numbers >>= (λ found. found_told run mail job found)) Refuses
      numbers_come =
          comes_then own h (some_found place job numbers) (λ found. found_told run mail job found) EndsSome Refuses
          (comes_more own h (some_found place job numbers) (FindsSome place job numbers own h) EndsSome found_shows (found_comes place job numbers own h))
          (λ later j found t. comes_at later later j h (found_told run mail job found) Refuses refl t.1 (told_comes later (unmade_after later found t.0) found)) (λ later j e q. q)

    by : (r : Refusal) → chosen_seen job names text entries ≡ Err (fault.Refused r) → IsRefusedByListing mail job entries r own
    by r is = record { names = names; text = text; reading = reading mail job.folder h a; older = older; newest = refl; told = told; refuses = is }

    stops : (e : CommandFault) → chosen_seen job names text entries ≡ Err e → Shows e own
    stops e is =
        by_choice (λ z. chosen_seen job names text entries ≡ Err z → Shows z own) (folder_with job.negation (numbers_of (listed_runs names)) (marks_of m)) job.specs e is (λ word. by (refusal.BadSpec word)) (λ word. by (refusal.Absent word))
        (λ word. by (refusal.EmptyRange word)) (λ word. by (refusal.EmptySequence word)) is

  -- where the run's next name was not made yet
  pub looks_refuses : (own : List Deed) → Unmade own → Comes own h (pick_looks run mail job) Refuses
  unfolding pick_looks
  looks_refuses before unmade =
      front_comes mail job.folder h (List ℕ) (chosen_seen job) (λ names numbers. some_found place job numbers >>= (λ found. found_told run mail job found)) Refuses before
      (record {
        absent = tt;
        long = λ names l. tt;
        stops = λ names text a told e is. stops names text a before told (unmade_both mail job.folder h run names a before unmade) e is;
        goes = λ names text a told live numbers is. numbers_come names text a before told (unmade_both mail job.folder h run names a before unmade) numbers is;
      })
