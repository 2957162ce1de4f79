-- What `folder -pack` answers by what it read of its folder, and what shows how it ended: its run's own deeds in the
-- call, the newest first.
use Rattle.std.specs.Prelude.{◌⊎◌, ℕ, List}
use Rattle.folder_files.specs.Deeds.{Deed}
use Rattle.step_plans.specs.declared.command_fault.CommandFault.{CommandFault}
use Rattle.opening_plans.specs.Endings.{Answering, ShowsEnd}
use Rattle.sortm_plans.specs.MovesAnswers.{ShowsMoves}
use Rattle.pack_plans.specs.PackPledge.{MakesMarks}
use Rattle.pack_plans.specs.declared.job.PackJob.{PackJob}

-- by the listing and the texts alone the sequences stay, but for what the reading cuts; and nothing refuses, for there
-- are no words
abbrev pub pack_answers : Answering
pack_answers = record { makes = λ listing m new. ⊥; refuses = λ listing m r. ⊥ }

-- what shows each fault of `folder -pack`
abbrev pub ShowsPack : ℕ → List ℕ → PackJob → CommandFault → List Deed → Type 0
ShowsPack run path job e own =
    ShowsEnd run path job.folder pack_answers e own ⊎ ShowsMoves run path job.folder (MakesMarks run path job) e own
