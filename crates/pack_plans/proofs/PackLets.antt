-- What the pledge of `folder -pack` lets its steps be.
use Rattle.std.proofs.Common.{◌<◌, ◌^◌, ℕ, List}
use Rattle.mh_base.specs.Numbers.{IsMsgNum}
use Rattle.mh_sequences.specs.Sequences.{Marked}
use Rattle.mh_sequences.specs.declared.run.Run.{Run}
use Rattle.folder_files.specs.Commands.{Sorting}
use Rattle.folder_files.specs.Deeds.{Deed}
use Rattle.folder_files.specs.declared.place.Place.{Place}
use Rattle.folder_files.specs.declared.place.Place.TheVariants.{Folder, Mail}
use Rattle.file_plans.proofs.Framing.{AnyStep}
use Rattle.step_plans.specs.Pledges.{Pledge}
use Rattle.step_plans.proofs.Lasting.{KeptBy}
use Rattle.message_moves.proofs.MovePledged.{LetsTake}
use Rattle.opening_plans.specs.FolderPledge.{folder_pledge, told_within}
use Rattle.opening_plans.proofs.FolderPledged.{seen_kept}
use Rattle.opening_plans.proofs.WorkPledged.{LetsBegin}
use Rattle.refile_plans.specs.RmmPledge.{every_message}
use Rattle.sortm_plans.proofs.ArrangedDone.{settled_kept}
use Rattle.message_places.specs.Places.{froms}
use Rattle.sortm_plans.specs.MovePledge.{WasWithdrawn}
use Rattle.sortm_plans.proofs.MoveLets as moving
use Rattle.sortm_plans.proofs.MoveLets.{marks_kept, may_take, moves_marks_kept}
use Rattle.pack_plans.specs.PackDone.{AllPacked, HasPacked}
use Rattle.pack_plans.specs.PackPledge.{MakesMarks, PacksSo, TakesMoving}
use Rattle.pack_plans.specs.Places.{listing_moves}
use Rattle.pack_plans.specs.declared.job.PackJob.{PackJob}

module _ (run : ℕ) (few : run < 2 ^ 128) (path : List ℕ) (job : PackJob) where
  -- what it pledges, if this is what it may tell
  abbrev pub packing : (List Deed → List ℕ → Type 0) → Pledge
  packing Tells = folder_pledge run path job.folder (MakesMarks run path job) (Sorting path job.folder every_message) Tells (PacksSo run path job)

  abbrev p : Place
  p = Folder path job.folder

  abbrev mail : Place
  mail = Mail path

  pub lets : LetsBegin path job.folder (Sorting path job.folder every_message) (PacksSo run path job)
  lets = moving.lets run path job.folder TakesMoving

  -- what it makes of sequences it makes later too
  pub makes_kept : (listing : List Run) (m new : Marked) → KeptBy AnyStep (λ own. MakesMarks run path job own listing m new)
  makes_kept listing m new = moves_marks_kept run path job.folder few (froms (listing_moves listing)) (listing_moves listing) m new

  -- a message is taken that is to get another number, and that no sequence has any more
  pub takes_one : (Tells : List Deed → List ℕ → Type 0) (n : ℕ) (own : List Deed) → IsMsgNum n → WasWithdrawn run path job.folder TakesMoving n own → LetsTake (packing Tells) p n own
  takes_one Tells n own ok freed = moving.takes_one run path job.folder (MakesMarks run path job) Tells (PacksSo run path job) n own ok (may_take run path job.folder TakesMoving n own ok freed)

  -- what was done at the end stays so
  pub all_kept : (listing : List Run) (m : Marked) (ends : List ℕ) → KeptBy AnyStep (AllPacked run path job listing m ends)
  all_kept listing m ends own s a any f = record { moved = settled_kept run few p (listing_moves listing) ends own s a tt f.moved; marks = marks_kept run path job.folder m (froms (listing_moves listing)) (listing_moves listing) ends own s a tt f.marks }

  pub packed_kept : KeptBy AnyStep (HasPacked run path job)
  packed_kept own s a any f = record {
    listing = f.listing;
    text = f.text;
    context = f.context;
    seen = seen_kept run p mail f.listing f.text f.context own s a tt f.seen;
    ends = f.ends;
    packed = all_kept f.listing (told_within f.listing f.text f.context job.folder) f.ends own s a tt f.packed;
  }
