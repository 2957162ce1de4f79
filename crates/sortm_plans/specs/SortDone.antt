-- What a run of `sortm` has done that came to its end.
use Rattle.std.specs.Prelude.{◌≡◌, ℕ, List, Ok}
use Rattle.mh_sequences.specs.declared.run.Run.{Run}
use Rattle.folder_files.specs.Deeds.{Deed}
use Rattle.folder_files.specs.declared.place.Place.TheVariants.{Folder, Mail}
use Rattle.message_places.specs.Places.{slots}
use Rattle.opening_plans.specs.FolderPledge.{told_within}
use Rattle.opening_plans.specs.Reads.{HaveSeen}
use Rattle.sortm_plans.specs.Sort.{chosen_from}
use Rattle.sortm_plans.specs.SortMoves.{HaveRead, moves_by}
use Rattle.sortm_plans.specs.MovesDone.{AllSettled, MarksWent}
use Rattle.sortm_plans.specs.declared.job.SortJob.{SortJob}

-- The run listed the folder and read its sequences and then the context; by these the job's words choose messages, and
-- it read each of them, one after another. By what it read they have an order. Each message that was to get another
-- number got one, its slot or one in place of that, and the marks went along.
pub record HasSortedChosen (run : ℕ) (path : List ℕ) (job : SortJob) (own : List Deed) : Type 0 where
  pub listing : List Run
  pub text : List ℕ
  pub context : List ℕ
  pub seen : HaveSeen run (Folder path job.folder) (Mail path) listing text context own
  pub numbers : List ℕ
  pub chosen : chosen_from job listing (told_within listing text context job.folder) ≡ Ok numbers
  pub texts : List (List ℕ)
  pub read : HaveRead (Folder path job.folder) numbers texts own
  pub ends : List ℕ
  pub moved : AllSettled run (Folder path job.folder) (moves_by job.key texts numbers) ends own
  pub marks : MarksWent job.folder (Folder path job.folder) (told_within listing text context job.folder)
      (slots (moves_by job.key texts numbers)) (moves_by job.key texts numbers) ends own
