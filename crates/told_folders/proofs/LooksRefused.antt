-- Where a command that only looks refuses its words, it is by what it read.
use Rattle.std.proofs.Common.{◌≡◌, ℕ, List, Result, Ok, Err, refl}
use Rattle.mh_base.specs.Entries.{entry_text}
use Rattle.mh_base.specs.declared.entry.Entry.TheVariants.{Sequences}
use Rattle.mh_profile.specs.declared.named_value.NamedValue.{NamedValue}
use Rattle.mh_sequences.specs.Runs.{numbers_of}
use Rattle.mh_sequences.specs.Sequences.{Marked}
use Rattle.mh_sequences.specs.declared.run.Run.{Run}
use Rattle.msg_ranges.specs.Selection.{marks_of}
use Rattle.folder_files.specs.Deeds.{Deed}
use Rattle.folder_files.specs.declared.place.Place.{Place}
use Rattle.folder_files.specs.declared.place.Place.TheVariants.{Folder}
use Rattle.folder_files.specs.declared.refusal.Refusal.{Refusal}
use Rattle.folder_files.specs.declared.refusal.Refusal.TheVariants as refusal
use Rattle.folder_files.specs.declared.step.Answer.{Answer}
use Rattle.file_plans.specs.Plan.{Hand, Plan, ◌>>=◌}
use Rattle.step_plans.specs.declared.command_fault.CommandFault.{CommandFault}
use Rattle.step_plans.specs.declared.command_fault.CommandFault.TheVariants as fault
use Rattle.step_plans.specs.declared.fault.PlanFault.{PlanFault}
use Rattle.step_plans.specs.declared.fault.PlanFault.TheVariants as plan
use Rattle.step_plans.proofs.Coming.{Comes, comes_then}
use Rattle.step_plans.proofs.Going.{Outcome}
use Rattle.command_stages.specs.Chosen.{folder_with}
use Rattle.command_stages.specs.Current.{made_current}
use Rattle.command_stages.specs.Endings.{of_plan}
use Rattle.mh_looks.proofs.Ending.{by_choice, comes_at}
use Rattle.opening_plans.specs.Reads.{TellsText}
use Rattle.told_folders.proofs.ChangesEnd.{lines_come}
use Rattle.told_folders.proofs.FrontComes.{IsUnmade, after_both, current_comes, front_comes, reading, unmade_both}
use Rattle.told_folders.proofs.LooksEnd.{checked_so}
use Rattle.told_folders.specs.Answers.{IsRefusedByListing, ShowsListing}
use Rattle.told_folders.specs.Plans.{folder_looked, lines_said}
use Rattle.told_folders.specs.Tasks.{Task, listed_runs, sequences_listed, sequences_seen}
use Rattle.mh_profile.specs.Reading.{entries_seen}

module _ (run : ℕ) (mail : List ℕ) (task : Task) (h : Hand) where
  abbrev place : Place
  place = Folder mail task.folder

  abbrev entries : List NamedValue
  entries = entries_seen h.context

  abbrev pub Shows : CommandFault → List Deed → Type 0
  Shows e own = ShowsListing mail task entries e own

  abbrev pub Refuses : {A : Type 0} → Outcome (Result A CommandFault)
  Refuses later j (Ok a) = Unit {0}
  Refuses later j (Err e) = Shows e later

  abbrev Unmade : List Deed → Type 0
  Unmade own = IsUnmade mail task.folder h run own

  -- a fault of a plan is no refusal of words
  of_plans : (e : PlanFault) (own : List Deed) → Shows (of_plan task.folder e) own
  of_plans plan.Faulted own = tt
  of_plans (plan.Locked q) own = tt
  of_plans (plan.Meddled q x) own = tt
  of_plans plan.Full own = tt
  of_plans (plan.Absent q) own = tt
  of_plans (plan.TooLarge l) own = tt
  of_plans plan.Memory own = tt

  abbrev rest : List Run → Marked → Plan (Result Unit CommandFault)
  rest listing m = lines_said (task.lines listing m) >>= (λ told. made_current run mail task.folder)

  said_comes : (own : List Deed) → Unmade own → (listing : List Run) (m : Marked) → Comes own h (rest listing m) Refuses
  said_comes own unmade listing m =
      comes_then own h (lines_said (task.lines listing m)) (λ told. made_current run mail task.folder) (λ later j r. (later ≡ own) × (j ≡ h) × (r ≡ Ok tt)) Refuses
      (lines_come own h (λ later j r. (later ≡ own) × (j ≡ h) × (r ≡ Ok tt)) (refl, refl, refl) (task.lines listing m))
      (λ later j u q. comes_at later own j h (made_current run mail task.folder) Refuses q.0 q.1 (current_comes mail task.folder h run Shows of_plans own unmade)) (λ later j e q. absurd (cc (q.2)))

  stops : (names : List (List ℕ)) (text : List ℕ) (a : Answer) (older : List Deed) → TellsText place (entry_text Sequences) text (reading mail task.folder h a) → (e : CommandFault) → sequences_seen task names text entries ≡ Err e
      → Shows e (after_both mail task.folder h names a older)
  stops names text a older told e is =
      by_choice (λ z. sequences_seen task names text entries ≡ Err z → Shows z (after_both mail task.folder h names a older)) (folder_with task.negation (numbers_of (listed_runs names)) (marks_of m)) task.specs e
      (checked_so task (listed_runs names) m task.specs e is) (λ word. by (refusal.BadSpec word)) (λ word. by (refusal.Absent word)) (λ word. by (refusal.EmptyRange word)) (λ word. by (refusal.EmptySequence word)) is
    where
      m : Marked
      m = sequences_listed names text entries task.folder

      by : (r : Refusal) → sequences_seen task names text entries ≡ Err (fault.Refused r) → IsRefusedByListing mail task entries r (after_both mail task.folder h names a older)
      by r is = record { names = names; text = text; reading = reading mail task.folder h a; older = older; newest = refl; told = told; refuses = is }

  -- where the run's next name was not made yet
  pub looks_refuses : (own : List Deed) → Unmade own → Comes own h (folder_looked run mail task) Refuses
  unfolding folder_looked
  looks_refuses own unmade =
      front_comes mail task.folder h Marked (sequences_seen task) (λ names m. rest (listed_runs names) m) Refuses own
      (record {
        absent = tt;
        long = λ names l. tt;
        stops = λ names text a told e is. stops names text a own told e is;
        goes = λ names text a told live m is. said_comes (after_both mail task.folder h names a own) (unmade_both mail task.folder h run names a own unmade) (listed_runs names) m;
      })
