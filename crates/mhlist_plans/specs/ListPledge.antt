-- The pledge of `mhlist`.
use Rattle.std.specs.Prelude.{ℕ, ◌<◌, ◌^◌, List, []}
use Rattle.file_plans.specs.Follows.{State}
use Rattle.step_plans.specs.Pledges.{Pledge}
use Rattle.step_plans.specs.Promises.{Promises}
use Rattle.told_folders.specs.Pledge.{look_pledge}
use Rattle.told_folders.specs.Tasks.{Task}
use Rattle.mhlist_plans.specs.declared.job.ListJob.{ListJob}

-- of its folder nothing is changed
abbrev pub task_of : ListJob → Task
task_of job =
    record {
      folder = job.folder;
      specs = job.specs;
      negation = job.negation;
      becomes = λ listing numbers m.
          m;
      lines = λ listing m. [];
    }

-- it changes nothing but the current folder, which becomes the one that it listed, and may say anything
abbrev pub list_pledge : ℕ → List ℕ → ListJob → Pledge
list_pledge run path job = look_pledge run path (task_of job)

-- what a call promises of its steps
abbrev pub PromisesSteps : ℕ → List ℕ → ListJob → State → State → Type 0
PromisesSteps run path job x y = run < 2 ^ 128 → Promises (list_pledge run path job) x y
