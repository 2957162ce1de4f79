-- `folder -pack` alone.
use Rattle.std.proofs.Common.{ℕ, List, Result}
use Rattle.mh_base.specs.Streams.{SinkState}
use Rattle.mh_sequences.proofs.Suffixes.{suffix_clean}
use Rattle.folder_files.specs.Story.{FilesState}
use Rattle.file_plans.specs.Follows.{Follows, by_out}
use Rattle.file_plans.specs.Plan.{Hand}
use Rattle.step_plans.specs.CommandFaults.{command_cause}
use Rattle.step_plans.specs.declared.command_fault.CommandFault.{CommandFault}
use Rattle.told_folders.proofs.ToldAlone.{GivesWork, tells_alone}
use Rattle.pack_plans.specs.Pack.{pack}
use Rattle.pack_plans.specs.PackAlone.{PacksIfUnfaulted}
use Rattle.pack_plans.specs.PackOutcome.{pack_work}
use Rattle.pack_plans.specs.declared.job.PackJob.{PackJob}
use Rattle.pack_plans.proofs.PackGiven.{pack_gives}

gives_work : (run : ℕ) (path : List ℕ) (job : PackJob) → GivesWork run path job.folder (pack run path job) (λ entries held. pack_work run path entries held job)
gives_work run path job few valid c es is short held are ns v hand untouched at numbers known = pack_gives run few path job valid (suffix_clean job.folder) c es is short held are ns v hand untouched

pub pack_alone : (run : ℕ) (path : List ℕ) (job : PackJob) (h j : Hand) (f g : FilesState) (x y : SinkState) (result : Result Unit CommandFault)
    → Follows run command_cause (pack run path job) (by_out h f x) (by_out j g y) result → PacksIfUnfaulted run path job h result f g x y
pack_alone run path job h j f g x y result follows = tells_alone run path job.folder (pack run path job) (λ entries held. pack_work run path entries held job) (gives_work run path job) h j f g x y result follows
