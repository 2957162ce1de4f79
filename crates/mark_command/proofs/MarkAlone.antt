-- `mark` alone.
use Rattle.std.proofs.Common.{ℕ, List, Option, None, Some, Result}
use Rattle.mh_base.specs.Streams.{SinkState}
use Rattle.folder_files.specs.Story.{FilesState}
use Rattle.file_plans.specs.Follows.{Follows, by_out}
use Rattle.file_plans.specs.Plan.{Hand}
use Rattle.step_plans.specs.CommandFaults.{command_cause}
use Rattle.step_plans.specs.declared.command_fault.CommandFault.{CommandFault}
use Rattle.told_folders.specs.ToldAlone.{TellsIfUnfaulted}
use Rattle.told_folders.proofs.FoldersGiven.{changed_works, looked_works}
use Rattle.told_folders.proofs.ToldAlone.{GivesWork, tells_alone}
use Rattle.mark_command.specs.Mark.{look_task, mark, mark_by_act, mark_task, mark_work, work_by}
use Rattle.mark_command.specs.declared.job.MarkAct.{MarkAct}
use Rattle.mark_command.specs.declared.job.MarkJob.{MarkJob}
use Rattle.mark_command.proofs.Orderly.{look_orderly, mark_orderly}

gives_by : (run : ℕ) (path : List ℕ) (job : MarkJob) (act : Option MarkAct) → GivesWork run path job.folder (mark_by_act run path job act) (work_by path job act)
gives_by run path job None = looked_works run path (look_task job) (look_orderly job)
gives_by run path job (Some a) = changed_works run path (mark_task job a) (mark_orderly job a)

pub mark_gives : (run : ℕ) (path : List ℕ) (job : MarkJob) → GivesWork run path job.folder (mark run path job) (mark_work path job)
unfolding mark mark_work
mark_gives run path job = gives_by run path job job.act

pub mark_alone : (run : ℕ) (path : List ℕ) (job : MarkJob) (h j : Hand) (f g : FilesState) (x y : SinkState) (result : Result Unit CommandFault)
    → Follows run command_cause (mark run path job) (by_out h f x) (by_out j g y) result → TellsIfUnfaulted run path job.folder h (mark_work path job) result f g x y
mark_alone run path job h j f g x y result follows = tells_alone run path job.folder (mark run path job) (mark_work path job) (mark_gives run path job) h j f g x y result follows
