-- What a run of `folder -pack` has done that numbered a folder's messages anew.
use Rattle.std.specs.Prelude.{ℕ, List}
use Rattle.mh_sequences.specs.Sequences.{Marked}
use Rattle.mh_sequences.specs.declared.run.Run.{Run}
use Rattle.folder_files.specs.Deeds.{Deed}
use Rattle.folder_files.specs.declared.place.Place.TheVariants.{Folder, Mail}
use Rattle.message_places.specs.Places.{froms}
use Rattle.opening_plans.specs.FolderPledge.{told_within}
use Rattle.opening_plans.specs.Reads.{HaveSeen}
use Rattle.sortm_plans.specs.MovesDone.{AllSettled, MarksWent}
use Rattle.pack_plans.specs.Places.{listing_moves}
use Rattle.pack_plans.specs.declared.job.PackJob.{PackJob}

-- each message of a folder with these numbers and sequences that was to get another number got the one beside it, and
-- the marks went along
pub record AllPacked (run : ℕ) (path : List ℕ) (job : PackJob) (listing : List Run) (m : Marked) (ends : List ℕ)
    (own : List Deed) : Type 0 where
  pub moved : AllSettled run (Folder path job.folder) (listing_moves listing) ends own
  pub marks : MarksWent job.folder (Folder path job.folder) m (froms (listing_moves listing))
      (listing_moves listing) ends own

-- The run listed the folder and read its sequences and then the context. Each message that was to get another number
-- got one, its place or one in place of that, and the marks went along.
pub record HasPacked (run : ℕ) (path : List ℕ) (job : PackJob) (own : List Deed) : Type 0 where
  pub listing : List Run
  pub text : List ℕ
  pub context : List ℕ
  pub seen : HaveSeen run (Folder path job.folder) (Mail path) listing text context own
  pub ends : List ℕ
  pub packed : AllPacked run path job listing (told_within listing text context job.folder) ends own
