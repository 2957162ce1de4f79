-- `anno` alone.
use Rattle.std.proofs.Common.{ℕ, List, Result}
use Rattle.mh_sequences.proofs.Suffixes.{suffix_clean}
use Rattle.folder_files.specs.Story.{FilesState}
use Rattle.file_plans.specs.Follows.{Follows, by_hand, quiet}
use Rattle.file_plans.specs.Plan.{Hand}
use Rattle.step_plans.specs.CommandFaults.{command_cause}
use Rattle.step_plans.specs.declared.command_fault.CommandFault.{CommandFault}
use Rattle.told_folders.proofs.ToldAlone.{GivesWork, tells_alone}
use Rattle.anno_plans.specs.Anno.{anno}
use Rattle.anno_plans.specs.AnnoAlone.{NotesIfUnfaulted}
use Rattle.anno_plans.specs.AnnoOutcome.{anno_work}
use Rattle.anno_plans.specs.declared.job.AnnoJob.{AnnoJob}
use Rattle.anno_plans.proofs.AnnoGiven.{anno_gives}

gives_work : (run : ℕ) (path : List ℕ) (job : AnnoJob) → GivesWork run path job.folder (anno run path job) (λ entries held. anno_work run path entries held job)
gives_work run path job few valid c es is short held are ns v hand untouched at numbers known = anno_gives run few path job valid (suffix_clean job.folder) c es is short held are ns v hand untouched

pub anno_alone : (run : ℕ) (path : List ℕ) (job : AnnoJob) (h j : Hand) (f g : FilesState) (result : Result Unit CommandFault) → Follows run command_cause (anno run path job) (by_hand h f) (by_hand j g) result → NotesIfUnfaulted run path job h result f g
anno_alone run path job h j f g result follows = tells_alone run path job.folder (anno run path job) (λ entries held. anno_work run path entries held job) (gives_work run path job) h j f g quiet quiet result follows
