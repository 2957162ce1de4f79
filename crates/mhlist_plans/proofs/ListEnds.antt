-- How `mhlist` ends, and what shows it.
use Rattle.std.proofs.Common.{◌≡◌, ◌⊎◌, inl, inr, ◌^◌, ◌∷◌, [], ℕ, true, List, Result, Ok, Err, nat_lt, refl, sym, subst}
use Rattle.mh_base.specs.Entries.{entry_text}
use Rattle.mh_base.specs.declared.entry.Entry.TheVariants.{Sequences}
use Rattle.mh_sequences.specs.Runs.{numbers_of}
use Rattle.mh_sequences.specs.Sequences.{Marked}
use Rattle.msg_ranges.specs.Selection.{marks_of}
use Rattle.msg_ranges.proofs.Rising.{lists}
use Rattle.folder_files.specs.Deeds.{Deed, did, last}
use Rattle.folder_files.specs.declared.place.Place.{Place}
use Rattle.folder_files.specs.declared.place.Place.TheVariants.{Folder}
use Rattle.folder_files.specs.declared.step.Answer.{Answer}
use Rattle.folder_files.specs.declared.step.Answer.TheVariants as answer
use Rattle.folder_files.specs.declared.step.Step.TheVariants as step
use Rattle.file_plans.specs.Plan.{Hand, Plan, ◌>>=◌}
use Rattle.file_plans.specs.Sightings.{has_number}
use Rattle.step_plans.specs.ContextCommit.{LIMIT_BYTES}
use Rattle.step_plans.specs.Endings.{HasMet, name_gone}
use Rattle.step_plans.specs.declared.command_fault.CommandFault.{CommandFault}
use Rattle.step_plans.proofs.Coming.{Comes, comes_more, comes_then}
use Rattle.step_plans.proofs.Going.{Outcome}
use Rattle.command_stages.specs.Chosen.{folder_with}
use Rattle.command_stages.specs.Current.{made_current}
use Rattle.mh_looks.specs.ScanJob.{ScanJob}
use Rattle.mh_looks.proofs.Ending.{AfterSequences, IsUnmade, ScanEnds, ScanShows, absent, bad_spec, by_choice, comes_at, current_comes, empty_range, empty_sequence, long_file, meddled, name_of, unread, no_folder, listed_text}
use Rattle.opening_plans.proofs.ChosenListed.{has_tested, words_listed}
use Rattle.opening_plans.proofs.NamesKept.{met_kept}
use Rattle.told_folders.proofs.ChangesEnd.{lines_come}
use Rattle.told_folders.proofs.FrontComes.{front_comes, unmade_both}
use Rattle.told_folders.specs.Tasks.{listed_runs, sequences_listed}
use Rattle.told_folders.proofs.LooksEnd as told_looks
use Rattle.part_rows.specs.PathTexts.{path_text}
use Rattle.part_rows.specs.Rows.{header}
use Rattle.mhlist_plans.specs.ListAnswers.{IsNoPart}
use Rattle.mhlist_plans.specs.ListPledge.{task_of}
use Rattle.mhlist_plans.specs.Listing.{all_listed, chosen_seen, header_said, mhlist}
use Rattle.mhlist_plans.specs.declared.job.ListJob.{ListJob}
use Rattle.mhlist_plans.proofs.MessagesRead.{All, AreRead, Stopped, all_comes, is_gone, lacks, reading_kept, too_long}
use Rattle.mh_profile.specs.Reading.{entries_seen}

-- the same folder and words, as `scan` has them
abbrev pub looks_job : ListJob → ScanJob
looks_job job = told_looks.looks_job (task_of job)

module _ (run : ℕ) (mail : List ℕ) (job : ListJob) (h : Hand) (numbered : nat_lt h.next (2 ^ 64) ≡ true) where
  abbrev place : Place
  place = Folder mail job.folder

  abbrev Unmade : List Deed → Type 0
  Unmade own = IsUnmade run mail (looks_job job) h numbered own

  -- as a command that looks; or a part is missing
  abbrev pub Shows : CommandFault → List Deed → Type 0
  Shows e own = ScanShows run mail job.folder e own ⊎ IsNoPart e

  abbrev pub Looks : {A : Type 0} → Outcome (Result A CommandFault)
  Looks later j (Ok a) = Unit {0}
  Looks later j (Err e) = Shows e later

  as_scan : (later : List Deed) (j : Hand) (r : Result Unit CommandFault) → ScanEnds run mail (looks_job job) h numbered later j r → Looks later j r
  as_scan later j (Ok u) q = tt
  as_scan later j (Err e) q = inl q

  module _ (names : List (List ℕ)) (text : List ℕ) (a : Answer) (older : List Deed) (unmade : Unmade (AfterSequences place names a older)) where
    abbrev own : List Deed
    own = AfterSequences place names a older

    abbrev m : Marked
    m = sequences_listed names text (entries_seen h.context) job.folder

    abbrev rest : List ℕ → Plan (Result Unit CommandFault)
    rest numbers = header_said >>= (λ told. all_listed job.parts place numbers >>= (λ listed. made_current run mail job.folder))

    module _ (numbers : List ℕ) (is : chosen_seen job names text (entries_seen h.context) ≡ Ok numbers) where
      met : (n : ℕ) → lists numbers n ≡ true → HasMet place (name_of n) own
      met n e =
          met_kept place (name_of n) (step.Read place (entry_text Sequences) LIMIT_BYTES) a (did (step.List place) (answer.Names names) ∷ older) (λ f. f)
          (last (inr (names, refl, listed_text n names (has_tested (λ k. has_number k names) n (words_listed job.negation (listed_runs names) m job.specs numbers is n e)))))

      stopped_shows : (e : CommandFault) (later : List Deed) → Stopped place job.parts numbers own e later → Shows e later
      stopped_shows _ _ (too_long n l ms) = inl long_file
      stopped_shows _ _ (is_gone n ms among) =
          inl (meddled (name_gone (inl (LIMIT_BYTES, refl))
          (reading_kept place (HasMet place (name_of n)) (λ before k t f. met_kept place (name_of n) (step.Read place (name_of k) LIMIT_BYTES) (answer.Content t) before (λ z. z) f) ms own (met n among))))
      stopped_shows _ _ (lacks ms n left part k whole missing) = inr (path_text part, refl)

      unmade_after : (later : List Deed) → AreRead place job.parts numbers own later → Unmade later
      unmade_after later t =
          subst Unmade (sym t.read)
          (reading_kept place Unmade (λ before k text_ f. unread run mail (looks_job job) h numbered place (name_of k) (answer.Content text_) before f) t.messages own unmade)

      numbers_come : Comes own h (rest numbers) Looks
      numbers_come =
          comes_then own h header_said (λ told. all_listed job.parts place numbers >>= (λ listed. made_current run mail job.folder)) (λ later j r. (later ≡ own) × (j ≡ h) × (r ≡ Ok tt)) Looks
          (lines_come own h (λ later j r. (later ≡ own) × (j ≡ h) × (r ≡ Ok tt)) (refl, refl, refl) (header ∷ []))
          (λ later j u q. comes_at later own j h _ Looks q.0 q.1
          (comes_then own h (all_listed job.parts place numbers) (λ listed. made_current run mail job.folder) (All place job.parts numbers own h) Looks (all_comes place job.parts numbers own h)
          (λ last_ i v t. comes_at last_ last_ i h (made_current run mail job.folder) Looks refl t.1
          (comes_more last_ h (made_current run mail job.folder) (ScanEnds run mail (looks_job job) h numbered) Looks as_scan (current_comes run mail (looks_job job) h numbered last_ (unmade_after last_ t.0))))
          (λ last_ i e t. stopped_shows e last_ t)))
          (λ later j e q. absurd (cc (q.2)))

    stops : (e : CommandFault) → chosen_seen job names text (entries_seen h.context) ≡ Err e → Shows e own
    stops e is =
        by_choice (λ z. Shows z own) (folder_with job.negation (numbers_of (listed_runs names)) (marks_of m)) job.specs e is (λ word. inl bad_spec) (λ word. inl absent) (λ word. inl empty_range) (λ word. inl empty_sequence)

  -- where the run's next name was not made yet
  pub list_comes : (own : List Deed) → Unmade own → Comes own h (mhlist run mail job) Looks
  unfolding mhlist
  list_comes own_ unmade =
      front_comes mail job.folder h (List ℕ) (chosen_seen job) (λ names numbers. header_said >>= (λ told. all_listed job.parts place numbers >>= (λ listed. made_current run mail job.folder))) Looks own_
      (record {
        absent = inl no_folder;
        long = λ names l. inl long_file;
        stops = λ names text a told e is. stops names text a own_ (unmade_both mail job.folder h run names a own_ unmade) e is;
        goes = λ names text a told live numbers is. numbers_come names text a own_ (unmade_both mail job.folder h run names a own_ unmade) numbers is;
      })
