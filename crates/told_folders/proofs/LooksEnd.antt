-- How a command ends that only looks, and what shows it.
use Rattle.std.proofs.Common.{◌≡◌, ◌^◌, ◌∷◌, [], ℕ, true, false, List, Result, Ok, Err, nat_lt, refl, ap}
use Rattle.mh_sequences.specs.Runs.{numbers_of}
use Rattle.mh_sequences.specs.Sequences.{Marked}
use Rattle.mh_sequences.specs.declared.run.Run.{Run}
use Rattle.msg_ranges.specs.Selection.{marks_of}
use Rattle.folder_files.specs.Deeds.{Deed}
use Rattle.folder_files.specs.declared.place.Place.{Place}
use Rattle.folder_files.specs.declared.place.Place.TheVariants.{Folder}
use Rattle.folder_files.specs.declared.step.Answer.{Answer}
use Rattle.file_plans.specs.Plan.{Hand, Plan, ◌>>=◌}
use Rattle.step_plans.specs.declared.command_fault.CommandFault.{CommandFault}
use Rattle.step_plans.proofs.Coming.{Comes, comes_then}
use Rattle.step_plans.proofs.Going.{Outcome}
use Rattle.command_stages.specs.Chosen.{folder_with}
use Rattle.command_stages.specs.Current.{made_current}
use Rattle.mh_looks.specs.ScanJob.{ScanJob}
use Rattle.mh_looks.proofs.Ending.{AfterSequences, IsUnmade, ScanEnds, ScanShows, absent, bad_spec, by_choice, comes_at, current_comes, empty_range, empty_sequence, long_file, no_folder}
use Rattle.told_folders.proofs.ChangesEnd.{lines_come}
use Rattle.told_folders.proofs.FrontComes.{front_comes, unmade_both}
use Rattle.told_folders.specs.Plans.{folder_looked, lines_said}
use Rattle.told_folders.specs.Tasks.{Task, checked_by, chosen_from, listed_runs, sequences_listed, sequences_seen, unless_refused}
use Rattle.mh_profile.specs.Reading.{entries_seen}

-- the same folder and words, as `scan` has them; of lines this says nothing
abbrev pub looks_job : Task → ScanJob
looks_job task = record {
  folder = task.folder;
  specs = task.specs;
  reverse = false;
  unseen = [];
  negation = task.negation;
  spoken = λ standing n message. [];
}

unless_so : (m : Marked) (r : Result (List ℕ) CommandFault) (e : CommandFault) → unless_refused m r ≡ Err e → r ≡ Err e
unless_so m (Ok numbers) e is = cc (is)
unless_so m (Err x) e is = let same : x ≡ e = cc in ap (λ z. Err z) same

pub checked_so : (task : Task) (listing : List Run) (m : Marked) (specs : List (List ℕ)) (e : CommandFault) → checked_by specs task listing m ≡ Err e → chosen_from task listing m ≡ Err e
checked_so task listing m [] e is = cc (is)
checked_so task listing m (word ∷ words) e is = unless_so m (chosen_from task listing m) e is

module _ (run : ℕ) (mail : List ℕ) (task : Task) (h : Hand) (numbered : nat_lt h.next (2 ^ 64) ≡ true) where
  abbrev place : Place
  place = Folder mail task.folder

  abbrev Unmade : List Deed → Type 0
  Unmade own = IsUnmade run mail (looks_job task) h numbered own

  abbrev Looks : {A : Type 0} → Outcome (Result A CommandFault)
  Looks later j r = ScanEnds run mail (looks_job task) h numbered later j r

  abbrev rest : List Run → Marked → Plan (Result Unit CommandFault)
  rest listing m = lines_said (task.lines listing m) >>= (λ told. made_current run mail task.folder)

  said_comes : (own : List Deed) → Unmade own → (listing : List Run) (m : Marked) → Comes own h (rest listing m) Looks
  said_comes own unmade listing m =
      comes_then own h (lines_said (task.lines listing m)) (λ told. made_current run mail task.folder) (λ later j r. (later ≡ own) × (j ≡ h) × (r ≡ Ok tt)) Looks
      (lines_come own h (λ later j r. (later ≡ own) × (j ≡ h) × (r ≡ Ok tt)) (refl, refl, refl) (task.lines listing m))
      (λ later j u q. comes_at later own j h (made_current run mail task.folder) Looks q.0 q.1 (current_comes run mail (looks_job task) h numbered own unmade)) (λ later j e q. absurd (cc (q.2)))

  stops : (names : List (List ℕ)) (text : List ℕ) (a : Answer) (older : List Deed) (e : CommandFault) → sequences_seen task names text (entries_seen h.context) ≡ Err e → ScanShows run mail task.folder e (AfterSequences place names a older)
  stops names text a older e is =
      by_choice (λ z. ScanShows run mail task.folder z (AfterSequences place names a older)) (folder_with task.negation (numbers_of (listed_runs names)) (marks_of m)) task.specs e (checked_so task (listed_runs names) m task.specs e is)
      (λ word. bad_spec) (λ word. absent) (λ word. empty_range) (λ word. empty_sequence)
    where
      m : Marked
      m = sequences_listed names text (entries_seen h.context) task.folder

  -- where the run's next name was not made yet
  pub looks_comes : (own : List Deed) → Unmade own → Comes own h (folder_looked run mail task) Looks
  unfolding folder_looked
  looks_comes own unmade =
      front_comes mail task.folder h Marked (sequences_seen task) (λ names m. rest (listed_runs names) m) Looks own
      (record {
        absent = no_folder;
        long = λ names l. long_file;
        stops = λ names text a told e is. stops names text a own e is;
        goes = λ names text a told live m is. said_comes (AfterSequences place names a own) (unmade_both mail task.folder h run names a own unmade) (listed_runs names) m;
      })
