-- `sortm` alone.
use Rattle.std.proofs.Common.{ℕ, List, Result}
use Rattle.mh_sequences.proofs.Suffixes.{suffix_clean}
use Rattle.folder_files.specs.Story.{FilesState}
use Rattle.file_plans.specs.Follows.{Follows, by_hand, quiet}
use Rattle.file_plans.specs.Plan.{Hand}
use Rattle.step_plans.specs.CommandFaults.{command_cause}
use Rattle.step_plans.specs.declared.command_fault.CommandFault.{CommandFault}
use Rattle.told_folders.proofs.ToldAlone.{GivesWork, tells_alone}
use Rattle.sortm_plans.specs.Sort.{sortm}
use Rattle.sortm_plans.specs.SortAlone.{SortsIfUnfaulted}
use Rattle.sortm_plans.specs.SortOutcome.{sort_work}
use Rattle.sortm_plans.specs.declared.job.SortJob.{SortJob}
use Rattle.sortm_plans.proofs.SortGiven.{sortm_gives}

gives_work : (run : ℕ) (path : List ℕ) (job : SortJob) → GivesWork run path job.folder (sortm run path job) (λ entries held. sort_work run path entries held job)
gives_work run path job few valid c es is short held are ns v hand untouched at numbers known = sortm_gives run few path job valid (suffix_clean job.folder) c es is short held are ns v hand untouched

pub sortm_alone : (run : ℕ) (path : List ℕ) (job : SortJob) (h j : Hand) (f g : FilesState) (result : Result Unit CommandFault) → Follows run command_cause (sortm run path job) (by_hand h f) (by_hand j g) result → SortsIfUnfaulted run path job h result f g
sortm_alone run path job h j f g result follows = tells_alone run path job.folder (sortm run path job) (λ entries held. sort_work run path entries held job) (gives_work run path job) h j f g quiet quiet result follows
