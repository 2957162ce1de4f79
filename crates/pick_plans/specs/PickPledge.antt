-- The pledge of `pick`.
use Rattle.std.specs.Prelude.{◌≡◌, ◌<◌, ◌^◌, ℕ, List, Ok, Option, None, Some}
use Rattle.mh_sequences.specs.Sequences.{Marked}
use Rattle.mh_sequences.specs.declared.run.Run.{Run}
use Rattle.folder_files.specs.Commands.{Marking, Noting}
use Rattle.folder_files.specs.Deeds.{Deed}
use Rattle.folder_files.specs.declared.place.Place.TheVariants.{Folder}
use Rattle.file_plans.specs.Follows.{State}
use Rattle.step_plans.specs.ContextPledge.{MarksContext}
use Rattle.step_plans.specs.Pledges.{Pledge}
use Rattle.step_plans.specs.Promises.{Promises}
use Rattle.command_stages.specs.Current.{current_change}
use Rattle.opening_plans.specs.FolderPledge.{folder_pledge}
use Rattle.mh_looks.specs.ScanPledge.{HasListed}
use Rattle.pick_plans.specs.Marking.{marked_for}
use Rattle.pick_plans.specs.Pick.{chosen_from}
use Rattle.pick_plans.specs.Testing.{HaveTested}
use Rattle.pick_plans.specs.declared.job.PickJob.{PickJob}
use Rattle.pick_plans.specs.declared.job.PickMarks.{PickMarks}

-- the run read and tested the messages that the job's words choose of these numbers, and the sequences have those that
-- match
abbrev pub Picks : List ℕ → PickJob → PickMarks → List Deed → List Run → Marked → Marked → Type 0
Picks path job p own listing m new =
    (numbers : List ℕ) × (found : List ℕ) × (chosen_from job listing m ≡ Ok numbers)
    × HaveTested (Folder path job.folder) job.expr numbers found own
    × (new ≡ marked_for p found m)

-- a `pick` that marks changes what marks a folder of this mail directory, and may say anything
abbrev pub pick_pledge : ℕ → List ℕ → PickJob → PickMarks → Pledge
pick_pledge run path job p =
    folder_pledge run path job.folder (Picks path job p) (Marking path job.folder) (λ own piece. Unit {0})
    (λ own s. Unit {0})

-- one that marks nothing changes nothing but the current folder, which becomes the one that it listed
abbrev pub looks_pledge : ℕ → List ℕ → PickJob → Pledge
looks_pledge run path job = record {
  run = run;
  manner = Noting path;
  may_mark = λ own p name old text. HasListed (Folder path job.folder) own
      × MarksContext path (current_change job.folder) p name old text;
  may_tell = λ own piece. Unit {0};
  may_step = λ own s. Unit {0};
}

abbrev pub pledge_by : ℕ → List ℕ → PickJob → Option PickMarks → Pledge
pledge_by run path job None = looks_pledge run path job
pledge_by run path job (Some p) = pick_pledge run path job p

-- what a call promises of its steps, by what it marks
abbrev pub PromisesSteps : ℕ → List ℕ → PickJob → State → State → Type 0
PromisesSteps run path job x y = run < 2 ^ 128 → Promises (pledge_by run path job job.marks) x y
