-- What `sortm` does that runs alone.
use Rattle.std.specs.Prelude.{ℕ, List, Result}
use Rattle.folder_files.specs.Story.{FilesState}
use Rattle.file_plans.specs.Follows.{quiet}
use Rattle.file_plans.specs.Plan.{Hand}
use Rattle.step_plans.specs.declared.command_fault.CommandFault.{CommandFault}
use Rattle.told_folders.specs.ToldAlone.{TellsIfUnfaulted}
use Rattle.sortm_plans.specs.SortOutcome.{sort_work}
use Rattle.sortm_plans.specs.declared.job.SortJob.{SortJob}

-- the call comes to its work on the mailbox that it finds, where nothing else happens; it has nothing to say
abbrev pub SortsIfUnfaulted : ℕ → List ℕ → SortJob → Hand → Result Unit CommandFault → FilesState → FilesState → Type 0
SortsIfUnfaulted run path job h result f g =
    TellsIfUnfaulted run path job.folder h (λ entries held. sort_work run path entries held job) result f g quiet quiet
