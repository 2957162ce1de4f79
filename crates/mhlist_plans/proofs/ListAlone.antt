-- `mhlist` alone.
use Rattle.std.proofs.Common.{ℕ, List, Result}
use Rattle.mh_base.specs.Streams.{SinkState}
use Rattle.folder_files.specs.Story.{FilesState}
use Rattle.file_plans.specs.Follows.{Follows, by_out}
use Rattle.file_plans.specs.Plan.{Hand}
use Rattle.step_plans.specs.CommandFaults.{command_cause}
use Rattle.step_plans.specs.declared.command_fault.CommandFault.{CommandFault}
use Rattle.told_folders.specs.ToldAlone.{TellsIfUnfaulted}
use Rattle.told_folders.proofs.ToldAlone.{tells_alone}
use Rattle.mhlist_plans.specs.Listing.{mhlist}
use Rattle.mhlist_plans.specs.ListOutcome.{mhlist_work}
use Rattle.mhlist_plans.specs.declared.job.ListJob.{ListJob}
use Rattle.mhlist_plans.proofs.ListGiven.{list_works}

pub list_alone : (run : ℕ) (path : List ℕ) (job : ListJob) (h j : Hand) (f g : FilesState) (x y : SinkState) (result : Result Unit CommandFault) → Follows run command_cause (mhlist run path job) (by_out h f x) (by_out j g y) result
    → TellsIfUnfaulted run path job.folder h (λ entries held m. mhlist_work path entries job m) result f g x y
list_alone run path job h j f g x y result follows = tells_alone run path job.folder (mhlist run path job) (λ entries held m. mhlist_work path entries job m) (list_works run path job) h j f g x y result follows
