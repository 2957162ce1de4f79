-- `folder` alone.
use Rattle.std.proofs.Common.{◌∷◌, [], ℕ, List, Result}
use Rattle.mh_base.specs.Streams.{SinkState}
use Rattle.folder_files.specs.Story.{FilesState}
use Rattle.file_plans.specs.Follows.{Follows, by_out}
use Rattle.file_plans.specs.Plan.{Hand}
use Rattle.step_plans.specs.CommandFaults.{command_cause}
use Rattle.step_plans.specs.declared.command_fault.CommandFault.{CommandFault}
use Rattle.told_folders.specs.ToldAlone.{TellsIfUnfaulted}
use Rattle.told_folders.proofs.FoldersGiven.{changed_works, looked_works}
use Rattle.told_folders.proofs.ToldAlone.{GivesWork, tells_alone}
use Rattle.folder_command.specs.Folder.{folder, folder_by, folder_work, task_with, work_by}
use Rattle.folder_command.specs.declared.job.FolderJob.{FolderJob}
use Rattle.folder_command.proofs.Orderly.{orderly}

gives_by : (run : ℕ) (path : List ℕ) (job : FolderJob) (specs : List (List ℕ)) → GivesWork run path job.folder (folder_by run path job specs) (work_by path job specs)
gives_by run path job [] = looked_works run path (task_with [] job) (orderly [] job)
gives_by run path job (word ∷ words) = changed_works run path (task_with (word ∷ words) job) (orderly (word ∷ words) job)

pub folder_gives : (run : ℕ) (path : List ℕ) (job : FolderJob) → GivesWork run path job.folder (folder run path job) (folder_work path job)
unfolding folder folder_work
folder_gives run path job = gives_by run path job job.specs

pub folder_alone : (run : ℕ) (path : List ℕ) (job : FolderJob) (h j : Hand) (f g : FilesState) (x y : SinkState) (result : Result Unit CommandFault)
    → Follows run command_cause (folder run path job) (by_out h f x) (by_out j g y) result → TellsIfUnfaulted run path job.folder h (folder_work path job) result f g x y
folder_alone run path job h j f g x y result follows = tells_alone run path job.folder (folder run path job) (folder_work path job) (folder_gives run path job) h j f g x y result follows
