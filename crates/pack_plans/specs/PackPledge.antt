-- The pledge of `folder -pack`.
use Rattle.std.specs.Prelude.{◌≡◌, ◌<◌, ◌^◌, ℕ, List}
use Rattle.mh_sequences.specs.Sequences.{Marked}
use Rattle.mh_sequences.specs.declared.run.Run.{Run}
use Rattle.folder_files.specs.Commands.{Sorting}
use Rattle.folder_files.specs.Deeds.{Deed}
use Rattle.folder_files.specs.declared.place.Place.TheVariants.{Folder}
use Rattle.folder_files.specs.declared.step.Step.{Step}
use Rattle.file_plans.specs.Follows.{State}
use Rattle.step_plans.specs.Pledges.{Pledge}
use Rattle.step_plans.specs.Promises.{Promises}
use Rattle.message_places.specs.Places.{froms}
use Rattle.opening_plans.specs.FolderPledge.{folder_pledge, told_within}
use Rattle.refile_plans.specs.RmmPledge.{every_message}
use Rattle.sortm_plans.specs.MovePledge.{MovesMarks, MovesSo, Taking}
use Rattle.pack_plans.specs.Pack.{line_after}
use Rattle.pack_plans.specs.PackDone.{HasPacked}
use Rattle.pack_plans.specs.Places.{listing_moves}
use Rattle.pack_plans.specs.declared.job.PackJob.{PackJob}

-- the sequences are without the messages that move; or, once each of these has gone to a number, their marks have gone
-- along
abbrev pub MakesMarks : ℕ → List ℕ → PackJob → List Deed → List Run → Marked → Marked → Type 0
MakesMarks run path job own listing m new =
    MovesMarks run (Folder path job.folder) (froms (listing_moves listing)) (listing_moves listing) own m new

-- what is taken are the numbers of those that are to get another one
abbrev pub TakesMoving : Taking
TakesMoving listing m numbers own = numbers ≡ froms (listing_moves listing)

-- all that is asked of its steps besides
abbrev pub PacksSo : ℕ → List ℕ → PackJob → List Deed → Step → Type 0
PacksSo run path job own s = MovesSo run path job.folder TakesMoving own s

-- the line is said only once all messages have their numbers and their marks again, and it is the one of the folder as
-- the run left it
abbrev pub TellsPacked : ℕ → List ℕ → PackJob → List Deed → List ℕ → Type 0
TellsPacked run path job own piece =
    (f : HasPacked run path job own)
    × (piece ≡ line_after job f.listing (told_within f.listing f.text f.context job.folder) f.ends)

-- `folder -pack` begins the folder and keeps its marks, gives its messages other numbers, and tells of the folder then
abbrev pub pack_pledge : ℕ → List ℕ → PackJob → Pledge
pack_pledge run path job =
    folder_pledge run path job.folder (MakesMarks run path job) (Sorting path job.folder every_message)
    (TellsPacked run path job) (PacksSo run path job)

-- what a call promises of its steps
abbrev pub PromisesSteps : ℕ → List ℕ → PackJob → State → State → Type 0
PromisesSteps run path job x y = run < 2 ^ 128 → Promises (pack_pledge run path job) x y
