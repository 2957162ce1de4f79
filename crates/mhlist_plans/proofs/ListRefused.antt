-- Where `mhlist` refuses its words, or a part is missing, it is by what it read.
use Rattle.std.proofs.Common.{◌≡◌, ◌∷◌, [], ℕ, List, Result, Ok, Err, refl, sym, ◌∙◌, ap, subst}
use Rattle.mh_base.specs.Entries.{entry_text}
use Rattle.mh_base.specs.declared.entry.Entry.TheVariants.{Sequences}
use Rattle.mh_profile.specs.declared.named_value.NamedValue.{NamedValue}
use Rattle.mh_sequences.specs.Runs.{numbers_of}
use Rattle.mh_sequences.specs.Sequences.{Marked}
use Rattle.msg_ranges.specs.Selection.{marks_of}
use Rattle.folder_files.specs.Deeds.{Deed}
use Rattle.folder_files.specs.declared.place.Place.{Place}
use Rattle.folder_files.specs.declared.place.Place.TheVariants.{Folder, Mail}
use Rattle.folder_files.specs.declared.refusal.Refusal.{Refusal}
use Rattle.folder_files.specs.declared.refusal.Refusal.TheVariants as refusal
use Rattle.folder_files.specs.declared.step.Answer.{Answer}
use Rattle.folder_files.specs.declared.step.Answer.TheVariants as answer
use Rattle.folder_files.specs.declared.step.Step.TheVariants as step
use Rattle.file_plans.specs.Plan.{Hand, Plan, ◌>>=◌}
use Rattle.step_plans.specs.ContextCommit.{LIMIT_BYTES}
use Rattle.step_plans.specs.Hands.{temp_name}
use Rattle.step_plans.specs.declared.command_fault.CommandFault.{CommandFault}
use Rattle.step_plans.specs.declared.command_fault.CommandFault.TheVariants as fault
use Rattle.step_plans.specs.declared.fault.PlanFault.{PlanFault}
use Rattle.step_plans.specs.declared.fault.PlanFault.TheVariants as plan
use Rattle.step_plans.proofs.Coming.{Comes, comes_then}
use Rattle.step_plans.proofs.Ending.{unmade_more}
use Rattle.step_plans.proofs.Going.{Outcome}
use Rattle.command_stages.specs.Chosen.{folder_with}
use Rattle.command_stages.specs.Current.{made_current}
use Rattle.command_stages.specs.Endings.{of_plan}
use Rattle.mh_looks.proofs.Ending.{by_choice, comes_at, name_of}
use Rattle.opening_plans.specs.Reads.{TellsText}
use Rattle.told_folders.proofs.ChangesEnd.{lines_come}
use Rattle.told_folders.proofs.FrontComes.{IsUnmade, after_both, current_comes, front_comes, reading, unmade_both}
use Rattle.told_folders.specs.Tasks.{listed_runs, sequences_listed}
use Rattle.part_rows.specs.Rows.{header}
use Rattle.mhlist_plans.specs.ListAnswers.{IsRefusedByListing, ShowsListing, after_reading}
use Rattle.mhlist_plans.specs.Listing.{all_listed, chosen_seen, header_said, mhlist}
use Rattle.mhlist_plans.specs.declared.job.ListJob.{ListJob}
use Rattle.mhlist_plans.proofs.MessagesRead.{All, AreRead, Stopped, all_comes, is_gone, lacks, reading_kept, too_long}
use Rattle.mh_profile.specs.Reading.{entries_seen}

module _ (run : ℕ) (mail : List ℕ) (job : ListJob) (h : Hand) where
  abbrev place : Place
  place = Folder mail job.folder

  abbrev entries : List NamedValue
  entries = entries_seen h.context

  abbrev pub Shows : CommandFault → List Deed → Type 0
  Shows e own = ShowsListing mail job entries e own

  abbrev pub Refuses : {A : Type 0} → Outcome (Result A CommandFault)
  Refuses later j (Ok a) = Unit {0}
  Refuses later j (Err e) = Shows e later

  abbrev Unmade : List Deed → Type 0
  Unmade own = IsUnmade mail job.folder h run own

  -- a fault of a plan is no refusal of words
  of_plans : (e : PlanFault) (own : List Deed) → Shows (of_plan job.folder e) own
  of_plans plan.Faulted own = tt
  of_plans (plan.Locked q) own = tt
  of_plans (plan.Meddled q x) own = tt
  of_plans plan.Full own = tt
  of_plans (plan.Absent q) own = tt
  of_plans (plan.TooLarge l) own = tt
  of_plans plan.Memory own = tt

  module _ (names : List (List ℕ)) (text : List ℕ) (a : Answer) (older : List Deed) (told : TellsText place (entry_text Sequences) text (reading mail job.folder h a)) (unmade : Unmade (after_both mail job.folder h names a older)) where
    abbrev own : List Deed
    own = after_both mail job.folder h names a older

    abbrev m : Marked
    m = sequences_listed names text entries job.folder

    abbrev rest : List ℕ → Plan (Result Unit CommandFault)
    rest numbers = header_said >>= (λ told. all_listed job.parts place numbers >>= (λ listed. made_current run mail job.folder))

    module _ (numbers : List ℕ) (is : chosen_seen job names text entries ≡ Ok numbers) where
      stopped_shows : (e : CommandFault) (later : List Deed) → Stopped place job.parts numbers own e later → Shows e later
      stopped_shows _ _ (too_long n l ms) = tt
      stopped_shows _ _ (is_gone n ms among) = tt
      stopped_shows _ _ (lacks ms n left part k whole missing) = record {
        messages = ms;
        next = n;
        left = left;
        before = after_reading place ms own;
        newest = refl;
        just = record { names = names; text = text; reading = reading mail job.folder h a; older = older; seen = refl; told = told; chosen = is ∙ ap (λ z. Ok z) (sym k); whole = whole };
        part = part;
        missing = missing;
        named = refl;
      }

      unmade_after : (later : List Deed) → AreRead place job.parts numbers own later → Unmade later
      unmade_after later t =
          subst Unmade (sym t.read)
          (reading_kept place Unmade (λ before k text_ f. unmade_more (Mail mail) (temp_name run h.next) (step.Read place (name_of k) LIMIT_BYTES) (answer.Content text_) before (λ b e. cc (e)) f) t.messages own unmade)

      numbers_come : Comes own h (rest numbers) Refuses
      numbers_come =
          comes_then own h header_said (λ told. all_listed job.parts place numbers >>= (λ listed. made_current run mail job.folder)) (λ later j r. (later ≡ own) × (j ≡ h) × (r ≡ Ok tt)) Refuses
          (lines_come own h (λ later j r. (later ≡ own) × (j ≡ h) × (r ≡ Ok tt)) (refl, refl, refl) (header ∷ []))
          (λ later j u q. comes_at later own j h _ Refuses q.0 q.1
          (comes_then own h (all_listed job.parts place numbers) (λ listed. made_current run mail job.folder) (All place job.parts numbers own h) Refuses (all_comes place job.parts numbers own h)
          (λ last i v t. comes_at last last i h (made_current run mail job.folder) Refuses refl t.1 (current_comes mail job.folder h run Shows of_plans last (unmade_after last t.0))) (λ last i e t. stopped_shows e last t)))
          (λ later j e q. absurd (cc (q.2)))

    by : (r : Refusal) → chosen_seen job names text entries ≡ Err (fault.Refused r) → IsRefusedByListing mail job entries r own
    by r is = record { names = names; text = text; reading = reading mail job.folder h a; older = older; newest = refl; told = told; refuses = is }

    stops : (e : CommandFault) → chosen_seen job names text entries ≡ Err e → Shows e own
    stops e is =
        by_choice (λ z. chosen_seen job names text entries ≡ Err z → Shows z own) (folder_with job.negation (numbers_of (listed_runs names)) (marks_of m)) job.specs e is (λ word. by (refusal.BadSpec word)) (λ word. by (refusal.Absent word))
        (λ word. by (refusal.EmptyRange word)) (λ word. by (refusal.EmptySequence word)) is

  -- where the run's next name was not made yet
  pub list_refuses : (own : List Deed) → Unmade own → Comes own h (mhlist run mail job) Refuses
  unfolding mhlist
  list_refuses own_ unmade =
      front_comes mail job.folder h (List ℕ) (chosen_seen job) (λ names numbers. header_said >>= (λ told. all_listed job.parts place numbers >>= (λ listed. made_current run mail job.folder))) Refuses own_
      (record {
        absent = tt;
        long = λ names l. tt;
        stops = λ names text a told e is. stops names text a own_ told (unmade_both mail job.folder h run names a own_ unmade) e is;
        goes = λ names text a told live numbers is. numbers_come names text a own_ told (unmade_both mail job.folder h run names a own_ unmade) numbers is;
      })
