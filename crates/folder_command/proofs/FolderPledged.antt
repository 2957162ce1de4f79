-- `folder` promises what its pledge says.
use Rattle.std.proofs.Common.{◌<◌, ◌^◌, ◌∷◌, [], ℕ, List, Result}
use Rattle.file_plans.specs.Follows.{Follows, State}
use Rattle.file_plans.specs.Plan.{Hand}
use Rattle.file_plans.specs.Rules.{IfOkay, Keeps}
use Rattle.file_plans.specs.Runs.{Deed as Done}
use Rattle.file_plans.proofs.Acting.{acts}
use Rattle.step_plans.specs.CommandFaults.{command_cause}
use Rattle.step_plans.specs.Promises.{Promises}
use Rattle.step_plans.specs.declared.command_fault.CommandFault.{CommandFault}
use Rattle.step_plans.proofs.Going.{Sound}
use Rattle.step_plans.proofs.Ruling.{rules_of}
use Rattle.opening_plans.proofs.EndedKept.{Still}
use Rattle.told_folders.proofs.ChangesPledged.{changes_keep, changes_promise, looks_keep, looks_promise}
use Rattle.folder_command.specs.Folder.{folder, folder_by, pledge_by, task_with}
use Rattle.folder_command.specs.declared.job.FolderJob.{FolderJob}

by_specs : (run : ℕ) (few : run < 2 ^ 128) (path : List ℕ) (job : FolderJob) (specs : List (List ℕ)) (x y : State) (result : Result Unit CommandFault)
    → Follows run command_cause (folder_by run path job specs) x y result → Promises (pledge_by run path job specs) x y
by_specs run few path job [] x y result f = looks_promise run few path (task_with [] job) x y result f
by_specs run few path job (word ∷ words) x y result f = changes_promise run few path (task_with (word ∷ words) job) x y result f

-- it keeps the rules of its pledge, whatever its run has done before
pub folder_keeps : (run : ℕ) (few : run < 2 ^ 128) (path : List ℕ) (job : FolderJob) (specs : List (List ℕ)) (past : List Done) (h : Hand) → Sound (pledge_by run path job specs) (acts past) h
    → Keeps (rules_of (pledge_by run path job specs)) past h (folder_by run path job specs) (IfOkay (Still (acts past)))
folder_keeps run few path job [] past h sound = looks_keep run few path (task_with [] job) past h sound
folder_keeps run few path job (word ∷ words) past h sound = changes_keep run few path (task_with (word ∷ words) job) past h sound

pub folder_promises : (run : ℕ) (few : run < 2 ^ 128) (path : List ℕ) (job : FolderJob) (x y : State) (result : Result Unit CommandFault)
    → Follows run command_cause (folder run path job) x y result → Promises (pledge_by run path job job.specs) x y
unfolding folder
folder_promises run few path job x y result f = by_specs run few path job job.specs x y result f
