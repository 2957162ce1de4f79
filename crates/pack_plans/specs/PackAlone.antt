-- What `folder -pack` does that runs alone.
use Rattle.std.specs.Prelude.{ℕ, List, Result}
use Rattle.mh_base.specs.Streams.{SinkState}
use Rattle.folder_files.specs.Story.{FilesState}
use Rattle.file_plans.specs.Plan.{Hand}
use Rattle.step_plans.specs.declared.command_fault.CommandFault.{CommandFault}
use Rattle.told_folders.specs.ToldAlone.{TellsIfUnfaulted}
use Rattle.pack_plans.specs.PackOutcome.{pack_work}
use Rattle.pack_plans.specs.declared.job.PackJob.{PackJob}

-- the call comes to its work on the mailbox that it finds, where nothing else happens
abbrev pub PacksIfUnfaulted : ℕ → List ℕ → PackJob → Hand → Result Unit CommandFault → FilesState → FilesState
    → SinkState → SinkState → Type 0
PacksIfUnfaulted run path job h result f g x y =
    TellsIfUnfaulted run path job.folder h (λ entries held. pack_work run path entries held job) result f g x y
