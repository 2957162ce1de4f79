-- What a run of `anno` has done that came to its end.
use Rattle.std.specs.Prelude.{◌≡◌, ℕ, true, List, Ok}
use Rattle.mh_sequences.specs.declared.run.Run.{Run}
use Rattle.folder_files.specs.Deeds.{Deed}
use Rattle.folder_files.specs.declared.place.Place.TheVariants.{Folder, Mail}
use Rattle.message_notes.specs.Noted.{HasNoted}
use Rattle.opening_plans.specs.FolderPledge.{told_within}
use Rattle.opening_plans.specs.Reads.{HaveSeen}
use Rattle.refile_plans.specs.RmmOutcome.{is_among}
use Rattle.anno_plans.specs.Anno.{chosen_from}
use Rattle.anno_plans.specs.declared.job.AnnoJob.{AnnoJob}

-- the run listed the folder and read its sequences and then the context; by these the job's words choose messages, and
-- it put each of them anew with the lines in front
pub record HasNotedChosen (run : ℕ) (path : List ℕ) (job : AnnoJob) (own : List Deed) : Type 0 where
  pub listing : List Run
  pub text : List ℕ
  pub context : List ℕ
  pub seen : HaveSeen run (Folder path job.folder) (Mail path) listing text context own
  pub numbers : List ℕ
  pub chosen : chosen_from job listing (told_within listing text context job.folder) ≡ Ok numbers
  pub noted : (n : ℕ) → is_among n numbers ≡ true → HasNoted run (Folder path job.folder) n job.lines own
