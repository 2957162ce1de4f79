-- What each step gives by a view: its answers, each with what it fits and the view after it.
use Rattle.std.proofs.Common.{◌≡◌, ◌≢◌, ℕ, Bool, true, false, List, Result, refl}
use Rattle.folder_files.specs.Rows.{IsNamesRow, IsReadRow, IsMakeRow, IsNewRow, IsOldRow, IsLockRow}
use Rattle.folder_files.specs.declared.place.Place.{Place}
use Rattle.folder_files.specs.declared.step.Step.{Step}
use Rattle.folder_files.specs.declared.step.Step.TheVariants as step
use Rattle.folder_files.specs.declared.step.Answer.{Answer}
use Rattle.folder_files.specs.declared.step.Answer.TheVariants as answer
use Rattle.file_plans.specs.Asking.{list, read, make_folder, create, sync_file, sync_folder, link, rename, unlink, lock, listing_of, reading_of, folder_made_of, entered_of, touched_of, locking_of}
use Rattle.file_plans.specs.Giving.{Gives}
use Rattle.file_plans.specs.Plan.{Hand, Plan, bind, ask, ◌>>=◌, lifted}
use Rattle.file_plans.specs.declared.answers.Entered.{Entered}
use Rattle.file_plans.specs.declared.answers.Entered.TheVariants as entered
use Rattle.file_plans.specs.declared.answers.FolderMade.{FolderMade}
use Rattle.file_plans.specs.declared.answers.FolderMade.TheVariants as folder_made
use Rattle.file_plans.specs.declared.answers.Listing.{Listing}
use Rattle.file_plans.specs.declared.answers.Listing.TheVariants as listing
use Rattle.file_plans.specs.declared.answers.Locking.{Locking}
use Rattle.file_plans.specs.declared.answers.Locking.TheVariants as locking
use Rattle.file_plans.specs.declared.answers.Reading.{Reading}
use Rattle.file_plans.specs.declared.answers.Reading.TheVariants as reading
use Rattle.file_plans.specs.declared.answers.Touched.{Touched}
use Rattle.file_plans.specs.declared.answers.Touched.TheVariants as touched
use Rattle.file_plans.specs.declared.asking.Stop.{Stop}
use Rattle.file_plans.specs.Contents.{FitsIn}
use Rattle.file_plans.specs.Views.{View, view_after, fits_view, by_view}

-- where the call runs alone, the answer is that of its contents
pub fits_alone : (alone : Bool) (v : View) (s : Step) (a : Answer) → alone ≡ true → fits_view alone v s a → FitsIn v.contents s a
fits_alone true v s a e f = f.0
fits_alone false v s a e f = cc

abbrev pub After : {B F : Type 0} → Bool → View → Step → Answer → Hand → List ℕ → Plan (Result B F) → (View → Hand → List ℕ → Result B F → Type 0) → Type 0
After alone v s a h text p Q = fits_view alone v s a → Gives (by_view alone) (view_after v s a) h text p Q

module _ {B F : Type 0} (alone : Bool) (v : View) (from : Stop → F) (h : Hand) (text : List ℕ) (Q : View → Hand → List ℕ → Result B F → Type 0) where
  pub touch_view : (s : Step) (k : Touched → Plan (Result B F)) → After alone v s answer.Done h text (k touched.Done) Q → After alone v s answer.Gone h text (k touched.Gone) Q
      → (a : Answer) → IsOldRow a → a ≢ answer.Failed → fits_view alone v s a → Gives (by_view alone) (view_after v s a) h text (k (touched_of a)) Q
  touch_view s k done gone answer.Done row live f = done f
  touch_view s k done gone answer.Gone row live f = gone f
  touch_view s k done gone answer.Failed row live f = absurd (live refl)
  touch_view s k done gone (answer.Names names) row live f = absurd row
  touch_view s k done gone (answer.Content b) row live f = absurd row
  touch_view s k done gone (answer.Piece b l) row live f = absurd row
  touch_view s k done gone (answer.Long l) row live f = absurd row
  touch_view s k done gone answer.Exists row live f = absurd row
  touch_view s k done gone answer.Busy row live f = absurd row
  touch_view s k done gone answer.Grown row live f = absurd row

  pub enter_view : (s : Step) (k : Entered → Plan (Result B F)) → After alone v s answer.Done h text (k entered.Done) Q → After alone v s answer.Exists h text (k entered.Exists) Q → After alone v s answer.Gone h text (k entered.Gone) Q
      → (a : Answer) → IsNewRow a → a ≢ answer.Failed → fits_view alone v s a → Gives (by_view alone) (view_after v s a) h text (k (entered_of a)) Q
  enter_view s k done exists gone answer.Done row live f = done f
  enter_view s k done exists gone answer.Exists row live f = exists f
  enter_view s k done exists gone answer.Gone row live f = gone f
  enter_view s k done exists gone answer.Failed row live f = absurd (live refl)
  enter_view s k done exists gone (answer.Names names) row live f = absurd row
  enter_view s k done exists gone (answer.Content b) row live f = absurd row
  enter_view s k done exists gone (answer.Piece b l) row live f = absurd row
  enter_view s k done exists gone (answer.Long l) row live f = absurd row
  enter_view s k done exists gone answer.Busy row live f = absurd row
  enter_view s k done exists gone answer.Grown row live f = absurd row

  pub unlink_view : (p : Place) (n : List ℕ) (k : Touched → Plan (Result B F)) → After alone v (step.Unlink p n) answer.Done h text (k touched.Done) Q → After alone v (step.Unlink p n) answer.Gone h text (k touched.Gone) Q
      → Gives (by_view alone) v h text (lifted from (unlink p n) >>= k) Q
  unfolding Gives unlink lifted bind ask ◌>>=◌
  unlink_view p n k done gone = touch_view (step.Unlink p n) k done gone

  pub sync_file_view : (p : Place) (n : List ℕ) (k : Touched → Plan (Result B F)) → After alone v (step.SyncFile p n) answer.Done h text (k touched.Done) Q → After alone v (step.SyncFile p n) answer.Gone h text (k touched.Gone) Q
      → Gives (by_view alone) v h text (lifted from (sync_file p n) >>= k) Q
  unfolding Gives sync_file lifted bind ask ◌>>=◌
  sync_file_view p n k done gone = touch_view (step.SyncFile p n) k done gone

  pub sync_folder_view : (p : Place) (k : Touched → Plan (Result B F)) → After alone v (step.SyncFolder p) answer.Done h text (k touched.Done) Q → After alone v (step.SyncFolder p) answer.Gone h text (k touched.Gone) Q
      → Gives (by_view alone) v h text (lifted from (sync_folder p) >>= k) Q
  unfolding Gives sync_folder lifted bind ask ◌>>=◌
  sync_folder_view p k done gone = touch_view (step.SyncFolder p) k done gone

  pub rename_view : (p : Place) (a b : List ℕ) (k : Touched → Plan (Result B F)) → After alone v (step.Rename p a b) answer.Done h text (k touched.Done) Q → After alone v (step.Rename p a b) answer.Gone h text (k touched.Gone) Q
      → Gives (by_view alone) v h text (lifted from (rename p a b) >>= k) Q
  unfolding Gives rename lifted bind ask ◌>>=◌
  rename_view p a b k done gone = touch_view (step.Rename p a b) k done gone

  pub create_view : (p : Place) (n b : List ℕ) (k : Entered → Plan (Result B F)) → After alone v (step.Create p n b) answer.Done h text (k entered.Done) Q → After alone v (step.Create p n b) answer.Exists h text (k entered.Exists) Q
      → After alone v (step.Create p n b) answer.Gone h text (k entered.Gone) Q → Gives (by_view alone) v h text (lifted from (create p n b) >>= k) Q
  unfolding Gives create lifted bind ask ◌>>=◌
  create_view p n b k done exists gone = enter_view (step.Create p n b) k done exists gone

  pub link_view : (p : Place) (a b : List ℕ) (k : Entered → Plan (Result B F)) → After alone v (step.Link p a b) answer.Done h text (k entered.Done) Q → After alone v (step.Link p a b) answer.Exists h text (k entered.Exists) Q
      → After alone v (step.Link p a b) answer.Gone h text (k entered.Gone) Q → Gives (by_view alone) v h text (lifted from (link p a b) >>= k) Q
  unfolding Gives link lifted bind ask ◌>>=◌
  link_view p a b k done exists gone = enter_view (step.Link p a b) k done exists gone

  pub make_folder_view : (p : Place) (k : FolderMade → Plan (Result B F)) → After alone v (step.MakeFolder p) answer.Done h text (k folder_made.Done) Q → After alone v (step.MakeFolder p) answer.Exists h text (k folder_made.Exists) Q
      → Gives (by_view alone) v h text (lifted from (make_folder p) >>= k) Q
  unfolding Gives make_folder lifted bind ask ◌>>=◌
  make_folder_view p k done exists = next
    where
      next : (a : Answer) → IsMakeRow a → a ≢ answer.Failed → fits_view alone v (step.MakeFolder p) a → Gives (by_view alone) (view_after v (step.MakeFolder p) a) h text (k (folder_made_of a)) Q
      next answer.Done row live f = done f
      next answer.Exists row live f = exists f
      next answer.Failed row live f = absurd (live refl)
      next (answer.Names names) row live f = absurd row
      next (answer.Content b) row live f = absurd row
      next (answer.Piece b l) row live f = absurd row
      next (answer.Long l) row live f = absurd row
      next answer.Gone row live f = absurd row
      next answer.Busy row live f = absurd row
      next answer.Grown row live f = absurd row

  pub lock_view : (p : Place) (k : Locking → Plan (Result B F)) → After alone v (step.Lock p) answer.Done h text (k locking.Done) Q → After alone v (step.Lock p) answer.Busy h text (k locking.Busy) Q
      → After alone v (step.Lock p) answer.Gone h text (k locking.Gone) Q → Gives (by_view alone) v h text (lifted from (lock p) >>= k) Q
  unfolding Gives lock lifted bind ask ◌>>=◌
  lock_view p k done busy gone = next
    where
      next : (a : Answer) → IsLockRow a → a ≢ answer.Failed → fits_view alone v (step.Lock p) a → Gives (by_view alone) (view_after v (step.Lock p) a) h text (k (locking_of a)) Q
      next answer.Done row live f = done f
      next answer.Busy row live f = busy f
      next answer.Gone row live f = gone f
      next answer.Failed row live f = absurd (live refl)
      next (answer.Names names) row live f = absurd row
      next (answer.Content b) row live f = absurd row
      next (answer.Piece b l) row live f = absurd row
      next (answer.Long l) row live f = absurd row
      next answer.Exists row live f = absurd row
      next answer.Grown row live f = absurd row

  pub list_view : (p : Place) (k : Listing → Plan (Result B F)) → ((names : List (List ℕ)) → After alone v (step.List p) (answer.Names names) h text (k (listing.Names names)) Q)
      → After alone v (step.List p) answer.Gone h text (k listing.Gone) Q → Gives (by_view alone) v h text (lifted from (list p) >>= k) Q
  unfolding Gives list lifted bind ask ◌>>=◌
  list_view p k some gone = next
    where
      next : (a : Answer) → IsNamesRow a → a ≢ answer.Failed → fits_view alone v (step.List p) a → Gives (by_view alone) (view_after v (step.List p) a) h text (k (listing_of a)) Q
      next (answer.Names names) row live f = some names f
      next answer.Gone row live f = gone f
      next answer.Failed row live f = absurd (live refl)
      next answer.Done row live f = absurd row
      next (answer.Content b) row live f = absurd row
      next (answer.Piece b l) row live f = absurd row
      next (answer.Long l) row live f = absurd row
      next answer.Exists row live f = absurd row
      next answer.Busy row live f = absurd row
      next answer.Grown row live f = absurd row

  pub read_view : (p : Place) (n : List ℕ) (limit : ℕ) (k : Reading → Plan (Result B F)) → ((bytes : List ℕ) → After alone v (step.Read p n limit) (answer.Content bytes) h text (k (reading.Content bytes)) Q)
      → ((l : ℕ) → After alone v (step.Read p n limit) (answer.Long l) h text (k (reading.Long l)) Q) → After alone v (step.Read p n limit) answer.Gone h text (k reading.Gone) Q
      → Gives (by_view alone) v h text (lifted from (read p n limit) >>= k) Q
  unfolding Gives read lifted bind ask ◌>>=◌
  read_view p n limit k content long gone = next
    where
      next : (a : Answer) → IsReadRow a → a ≢ answer.Failed → fits_view alone v (step.Read p n limit) a → Gives (by_view alone) (view_after v (step.Read p n limit) a) h text (k (reading_of a)) Q
      next (answer.Content bytes) row live f = content bytes f
      next (answer.Long l) row live f = long l f
      next answer.Gone row live f = gone f
      next answer.Failed row live f = absurd (live refl)
      next answer.Done row live f = absurd row
      next (answer.Names found) row live f = absurd row
      next (answer.Piece b l) row live f = absurd row
      next answer.Exists row live f = absurd row
      next answer.Busy row live f = absurd row
      next answer.Grown row live f = absurd row
