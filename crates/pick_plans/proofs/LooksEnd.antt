-- How a `pick` ends that marks nothing, and what shows it.
use Rattle.std.proofs.Common.{◌≡◌, ◌⊎◌, inl, inr, ◌^◌, ◌∷◌, [], ℕ, true, List, Result, Ok, Err, nat_lt, refl, sym, subst}
use Rattle.mh_base.specs.Entries.{entry_text}
use Rattle.mh_base.specs.declared.entry.Entry.TheVariants.{Sequences}
use Rattle.mh_sequences.specs.Runs.{numbers_of}
use Rattle.mh_sequences.specs.Sequences.{Marked}
use Rattle.msg_ranges.specs.Selection.{marks_of}
use Rattle.msg_ranges.proofs.Rising.{lists}
use Rattle.folder_files.specs.Deeds.{Deed, did, last}
use Rattle.folder_files.specs.declared.place.Place.{Place}
use Rattle.folder_files.specs.declared.place.Place.TheVariants.{Folder}
use Rattle.folder_files.specs.declared.refusal.Refusal.TheVariants as refusal
use Rattle.folder_files.specs.declared.step.Answer.{Answer}
use Rattle.folder_files.specs.declared.step.Answer.TheVariants as answer
use Rattle.folder_files.specs.declared.step.Step.TheVariants as step
use Rattle.file_plans.specs.Plan.{Hand, ◌>>=◌}
use Rattle.file_plans.specs.Sightings.{has_number}
use Rattle.step_plans.specs.ContextCommit.{LIMIT_BYTES}
use Rattle.step_plans.specs.Endings.{HasMet, name_gone}
use Rattle.step_plans.specs.declared.command_fault.CommandFault.{CommandFault}
use Rattle.step_plans.specs.declared.command_fault.CommandFault.TheVariants as fault
use Rattle.step_plans.proofs.Coming.{Comes, comes_more, comes_then}
use Rattle.step_plans.proofs.Going.{Outcome}
use Rattle.command_stages.specs.Chosen.{folder_with}
use Rattle.command_stages.specs.Current.{made_current}
use Rattle.mh_looks.specs.ScanJob.{ScanJob}
use Rattle.mh_looks.proofs.Ending.{AfterSequences, IsUnmade, ScanEnds, ScanShows, absent, bad_spec, by_choice, comes_at, current_comes, empty_range, empty_sequence, long_file, meddled, name_of, unread, no_folder, listed_text}
use Rattle.opening_plans.proofs.ChosenListed.{has_tested, words_listed}
use Rattle.opening_plans.proofs.NamesKept.{met_kept}
use Rattle.told_folders.specs.Tasks.{listed_runs, sequences_listed}
use Rattle.told_folders.proofs.FrontComes.{front_comes, unmade_both}
use Rattle.told_folders.proofs.LooksEnd as told_looks
use Rattle.pick_plans.specs.Lines.{lines_for}
use Rattle.pick_plans.specs.Pick.{chosen_seen, found_told, pick_looks, said_if, some_found}
use Rattle.pick_plans.specs.declared.job.PickJob.{PickJob}
use Rattle.pick_plans.proofs.LooksJob.{looks_of}
use Rattle.pick_plans.proofs.PickEnds.{FindsSome, found_comes, said_comes}
use Rattle.pick_plans.proofs.Tested.{AreTested, Stopped, is_gone, reading_kept, too_long}
use Rattle.mh_profile.specs.Reading.{entries_seen}

-- the same folder and words, as `scan` has them
abbrev pub looks_job : PickJob → ScanJob
looks_job job = told_looks.looks_job (looks_of job)

module _ (run : ℕ) (mail : List ℕ) (job : PickJob) (h : Hand) (numbered : nat_lt h.next (2 ^ 64) ≡ true) where
  abbrev place : Place
  place = Folder mail job.folder

  abbrev Unmade : List Deed → Type 0
  Unmade own = IsUnmade run mail (looks_job job) h numbered own

  -- as a command that looks; or no message matches
  abbrev pub Shows : CommandFault → List Deed → Type 0
  Shows e own = ScanShows run mail job.folder e own ⊎ (e ≡ fault.Refused refusal.NoMatch)

  abbrev pub Looks : {A : Type 0} → Outcome (Result A CommandFault)
  Looks later j (Ok a) = Unit {0}
  Looks later j (Err e) = Shows e later

  as_scan : (later : List Deed) (j : Hand) (r : Result Unit CommandFault) → ScanEnds run mail (looks_job job) h numbered later j r → Looks later j r
  as_scan later j (Ok u) q = tt
  as_scan later j (Err e) q = inl q

  told_comes : (own : List Deed) → Unmade own → (found : List ℕ) → Comes own h (found_told run mail job found) Looks
  unfolding found_told
  told_comes own unmade found =
      comes_then own h (said_if job.list (lines_for found)) (λ told. made_current run mail job.folder) (λ later j r. (later ≡ own) × (j ≡ h) × (r ≡ Ok tt)) Looks
      (said_comes own h (λ later j r. (later ≡ own) × (j ≡ h) × (r ≡ Ok tt)) (refl, refl, refl) job.list (lines_for found))
      (λ later j u q. comes_at later own j h (made_current run mail job.folder) Looks q.0 q.1
      (comes_more own h (made_current run mail job.folder) (ScanEnds run mail (looks_job job) h numbered) Looks as_scan (current_comes run mail (looks_job job) h numbered own unmade)))
      (λ later j e q. absurd (cc (q.2)))

  module _ (names : List (List ℕ)) (text : List ℕ) (a : Answer) (older : List Deed) (unmade : Unmade (AfterSequences place names a older)) where
    abbrev own : List Deed
    own = AfterSequences place names a older

    abbrev m : Marked
    m = sequences_listed names text (entries_seen h.context) job.folder

    module _ (numbers : List ℕ) (is : chosen_seen job names text (entries_seen h.context) ≡ Ok numbers) where
      met : (n : ℕ) → lists numbers n ≡ true → HasMet place (name_of n) own
      met n e =
          met_kept place (name_of n) (step.Read place (entry_text Sequences) LIMIT_BYTES) a (did (step.List place) (answer.Names names) ∷ older) (λ f. f)
          (last (inr (names, refl, listed_text n names (has_tested (λ k. has_number k names) n (words_listed job.negation (listed_runs names) m job.specs numbers is n e)))))

      stopped_shows : (e : CommandFault) (later : List Deed) → Stopped place numbers own e later → Shows e later
      stopped_shows _ _ (too_long n l ms) = inl long_file
      stopped_shows _ _ (is_gone n ms among) =
          inl (meddled (name_gone (inl (LIMIT_BYTES, refl))
          (reading_kept place (HasMet place (name_of n)) (λ k. Unit {0}) (λ before k t fine f. met_kept place (name_of n) (step.Read place (name_of k) LIMIT_BYTES) (answer.Content t) before (λ z. z) f) ms (λ k e. tt) own (met n among))))

      abbrev EndsSome : Outcome (Result (List ℕ) CommandFault)
      EndsSome later j (Ok found) = AreTested place job.expr [] numbers own later found × (j ≡ h)
      EndsSome later j (Err e) = Shows e later

      found_shows : (later : List Deed) (j : Hand) (r : Result (List ℕ) CommandFault) → FindsSome place job numbers own h later j r → EndsSome later j r
      found_shows later j (Ok found) q = q
      found_shows later j (Err e) (inl q) = inr q.0
      found_shows later j (Err e) (inr q) = stopped_shows e later q

      unmade_after : (later : List Deed) (found : List ℕ) → AreTested place job.expr [] numbers own later found → Unmade later
      unmade_after later found t =
          subst Unmade (sym t.read)
          (reading_kept place Unmade (λ k. Unit {0}) (λ before k text_ fine f. unread run mail (looks_job job) h numbered place (name_of k) (answer.Content text_) before f) t.messages (λ k e. tt) own unmade)

      numbers_come : Comes own h (some_found place job numbers >>= (λ found. found_told run mail job found)) Looks
      numbers_come =
          comes_then own h (some_found place job numbers) (λ found. found_told run mail job found) EndsSome Looks
          (comes_more own h (some_found place job numbers) (FindsSome place job numbers own h) EndsSome found_shows (found_comes place job numbers own h))
          (λ later j found t. comes_at later later j h (found_told run mail job found) Looks refl t.1 (told_comes later (unmade_after later found t.0) found)) (λ later j e q. q)

    stops : (e : CommandFault) → chosen_seen job names text (entries_seen h.context) ≡ Err e → Shows e own
    stops e is =
        by_choice (λ z. Shows z own) (folder_with job.negation (numbers_of (listed_runs names)) (marks_of m)) job.specs e is (λ word. inl bad_spec) (λ word. inl absent) (λ word. inl empty_range) (λ word. inl empty_sequence)

  -- where the run's next name was not made yet
  pub looks_comes : (own : List Deed) → Unmade own → Comes own h (pick_looks run mail job) Looks
  unfolding pick_looks
  looks_comes before unmade =
      front_comes mail job.folder h (List ℕ) (chosen_seen job) (λ names numbers. some_found place job numbers >>= (λ found. found_told run mail job found)) Looks before
      (record {
        absent = inl no_folder;
        long = λ names l. inl long_file;
        stops = λ names text a told e is. stops names text a before (unmade_both mail job.folder h run names a before unmade) e is;
        goes = λ names text a told live numbers is. numbers_come names text a before (unmade_both mail job.folder h run names a before unmade) numbers is;
      })
