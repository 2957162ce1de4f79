-- One step of a plan, and then the rest: an alternative for each answer of its row.
use Rattle.std.proofs.Common.{◌≢◌, ◌≤◌, ◌∷◌, ℕ, List, Result, Ok, Err, refl, length}
use Rattle.folder_files.specs.Deeds as deeds
use Rattle.folder_files.specs.Deeds.{did}
use Rattle.folder_files.specs.Rows.{IsNamesRow, IsReadRow, IsMakeRow, IsNewRow, IsOldRow, IsLockRow, IsUnlockRow, IsCutRow, IsPieceRow}
use Rattle.folder_files.specs.declared.place.Place.{Place}
use Rattle.folder_files.specs.declared.place.FilePath.{FilePath}
use Rattle.folder_files.specs.declared.step.Step.{Step}
use Rattle.folder_files.specs.declared.step.Step.TheVariants as step
use Rattle.folder_files.specs.declared.step.Answer.{Answer}
use Rattle.folder_files.specs.declared.step.Answer.TheVariants as answer
use Rattle.mh_base.specs.declared.streams.SinkFault.{SinkFault}
use Rattle.file_plans.specs.Asking.{list, read, make_folder, create, sync_file, sync_folder, link, rename, unlink, lock, cut_drop, read_drop, drop_cut_of, drop_piece_of, listing_of, reading_of, folder_made_of, entered_of, touched_of, locking_of}
use Rattle.file_plans.specs.Plan.{Hand, Plan, Return, bind, ask, say, ◌>>=◌, lifted}
use Rattle.file_plans.specs.StaysCareful.{only_looks}
use Rattle.file_plans.specs.declared.answers.DropCut.{DropCut}
use Rattle.file_plans.specs.declared.answers.DropCut.TheVariants as drop_cut
use Rattle.file_plans.specs.declared.answers.DropPiece.{DropPiece}
use Rattle.file_plans.specs.declared.answers.DropPiece.TheVariants as drop_piece
use Rattle.file_plans.specs.declared.answers.Entered.{Entered}
use Rattle.file_plans.specs.declared.answers.Entered.TheVariants as entered
use Rattle.file_plans.specs.declared.answers.FolderMade.{FolderMade}
use Rattle.file_plans.specs.declared.answers.FolderMade.TheVariants as folder_made
use Rattle.file_plans.specs.declared.answers.Listing.{Listing}
use Rattle.file_plans.specs.declared.answers.Listing.TheVariants as listing
use Rattle.file_plans.specs.declared.answers.Locking.{Locking}
use Rattle.file_plans.specs.declared.answers.Locking.TheVariants as locking
use Rattle.file_plans.specs.declared.answers.Reading.{Reading}
use Rattle.file_plans.specs.declared.answers.Reading.TheVariants as reading
use Rattle.file_plans.specs.declared.answers.Touched.{Touched}
use Rattle.file_plans.specs.declared.answers.Touched.TheVariants as touched
use Rattle.file_plans.specs.declared.asking.Stop.{Stop}
use Rattle.step_plans.specs.Pledges.{Pledge, MayAsk}
use Rattle.step_plans.proofs.Ruling.{IsNumbered}
use Rattle.step_plans.proofs.Going.{Sound, Outcome, okay, Goes}

-- answers by rows
module _ (G : Answer → Type 0) where
  pub on_new : G answer.Done → G answer.Exists → G answer.Gone → (a : Answer) → IsNewRow a → a ≢ answer.Failed → G a
  on_new d e g answer.Done row live = d
  on_new d e g answer.Exists row live = e
  on_new d e g answer.Gone row live = g
  on_new d e g answer.Failed row live = absurd (live refl)
  on_new d e g (answer.Names names) row live = absurd row
  on_new d e g (answer.Content b) row live = absurd row
  on_new d e g (answer.Piece b l) row live = absurd row
  on_new d e g (answer.Long l) row live = absurd row
  on_new d e g answer.Busy row live = absurd row
  on_new d e g answer.Grown row live = absurd row

  pub on_old : G answer.Done → G answer.Gone → (a : Answer) → IsOldRow a → a ≢ answer.Failed → G a
  on_old d g answer.Done row live = d
  on_old d g answer.Gone row live = g
  on_old d g answer.Exists row live = absurd row
  on_old d g answer.Failed row live = absurd (live refl)
  on_old d g (answer.Names names) row live = absurd row
  on_old d g (answer.Content b) row live = absurd row
  on_old d g (answer.Piece b l) row live = absurd row
  on_old d g (answer.Long l) row live = absurd row
  on_old d g answer.Busy row live = absurd row
  on_old d g answer.Grown row live = absurd row

  pub on_make : G answer.Done → G answer.Exists → (a : Answer) → IsMakeRow a → a ≢ answer.Failed → G a
  on_make d e answer.Done row live = d
  on_make d e answer.Exists row live = e
  on_make d e answer.Gone row live = absurd row
  on_make d e answer.Failed row live = absurd (live refl)
  on_make d e (answer.Names names) row live = absurd row
  on_make d e (answer.Content b) row live = absurd row
  on_make d e (answer.Piece b l) row live = absurd row
  on_make d e (answer.Long l) row live = absurd row
  on_make d e answer.Busy row live = absurd row
  on_make d e answer.Grown row live = absurd row

  pub on_lock : G answer.Done → G answer.Busy → G answer.Gone → (a : Answer) → IsLockRow a → a ≢ answer.Failed → G a
  on_lock d b g answer.Done row live = d
  on_lock d b g answer.Busy row live = b
  on_lock d b g answer.Gone row live = g
  on_lock d b g answer.Failed row live = absurd (live refl)
  on_lock d b g (answer.Names names) row live = absurd row
  on_lock d b g (answer.Content x) row live = absurd row
  on_lock d b g (answer.Piece x l) row live = absurd row
  on_lock d b g (answer.Long l) row live = absurd row
  on_lock d b g answer.Exists row live = absurd row
  on_lock d b g answer.Grown row live = absurd row

  pub on_unlock : G answer.Done → (a : Answer) → IsUnlockRow a → a ≢ answer.Failed → G a
  on_unlock d answer.Done row live = d
  on_unlock d answer.Gone row live = absurd row
  on_unlock d answer.Exists row live = absurd row
  on_unlock d answer.Failed row live = absurd (live refl)
  on_unlock d (answer.Names names) row live = absurd row
  on_unlock d (answer.Content b) row live = absurd row
  on_unlock d (answer.Piece b l) row live = absurd row
  on_unlock d (answer.Long l) row live = absurd row
  on_unlock d answer.Busy row live = absurd row
  on_unlock d answer.Grown row live = absurd row

  pub on_names : ((names : List (List ℕ)) → G (answer.Names names)) → G answer.Gone → (a : Answer) → IsNamesRow a → a ≢ answer.Failed → G a
  on_names n g answer.Done row live = absurd row
  on_names n g answer.Gone row live = g
  on_names n g answer.Exists row live = absurd row
  on_names n g answer.Failed row live = absurd (live refl)
  on_names n g (answer.Names names) row live = n names
  on_names n g (answer.Content b) row live = absurd row
  on_names n g (answer.Piece b l) row live = absurd row
  on_names n g (answer.Long l) row live = absurd row
  on_names n g answer.Busy row live = absurd row
  on_names n g answer.Grown row live = absurd row

  pub on_read : ((bytes : List ℕ) → G (answer.Content bytes)) → ((length : ℕ) → G (answer.Long length)) → G answer.Gone → (a : Answer) → IsReadRow a → a ≢ answer.Failed → G a
  on_read c l g answer.Done row live = absurd row
  on_read c l g answer.Gone row live = g
  on_read c l g answer.Exists row live = absurd row
  on_read c l g answer.Failed row live = absurd (live refl)
  on_read c l g (answer.Names names) row live = absurd row
  on_read c l g (answer.Content b) row live = c b
  on_read c l g (answer.Piece b n) row live = absurd row
  on_read c l g (answer.Long n) row live = l n
  on_read c l g answer.Busy row live = absurd row
  on_read c l g answer.Grown row live = absurd row

module _ (G : Answer → Type 0) where
  pub on_cut : G answer.Done → G answer.Grown → G answer.Gone → (a : Answer) → IsCutRow a → a ≢ answer.Failed → G a
  on_cut d w g answer.Done row live = d
  on_cut d w g answer.Gone row live = g
  on_cut d w g answer.Grown row live = w
  on_cut d w g answer.Failed row live = absurd (live refl)
  on_cut d w g answer.Exists row live = absurd row
  on_cut d w g (answer.Names names) row live = absurd row
  on_cut d w g (answer.Content b) row live = absurd row
  on_cut d w g (answer.Piece b l) row live = absurd row
  on_cut d w g (answer.Long l) row live = absurd row
  on_cut d w g answer.Busy row live = absurd row

module _ (most : ℕ) (G : Answer → Type 0) where
  pub on_piece : ((bytes : List ℕ) (length_ : ℕ) → length bytes ≤ most → G (answer.Piece bytes length_)) → G answer.Gone → (a : Answer) → IsPieceRow most a → a ≢ answer.Failed → G a
  on_piece p g answer.Done row live = absurd row
  on_piece p g answer.Gone row live = g
  on_piece p g answer.Grown row live = absurd row
  on_piece p g answer.Failed row live = absurd (live refl)
  on_piece p g answer.Exists row live = absurd row
  on_piece p g (answer.Names names) row live = absurd row
  on_piece p g (answer.Content b) row live = absurd row
  on_piece p g (answer.Piece b l) row live = p b l row
  on_piece p g (answer.Long l) row live = absurd row
  on_piece p g answer.Busy row live = absurd row

-- the step may be asked for
abbrev pub May : Pledge → List deeds.Deed → Hand → Step → Type 0
May w own h s = Sound w own h → MayAsk w own s × IsNumbered w.run h.next s

module _ {B F : Type 0} (w : Pledge) (own : List deeds.Deed) (h : Hand) (from : Stop → F) (Q : Outcome (Result B F)) where
  -- how the plan goes on after the step was answered so
  abbrev pub On : Step → Answer → Plan (Result B F) → Type 0
  On s a p = Goes w (did s a ∷ own) h p Q

  pub goes_create : (p : Place) (n b : List ℕ) (k : Entered → Plan (Result B F)) → May w own h (step.Create p n b)
      → On (step.Create p n b) answer.Done (k entered.Done) → On (step.Create p n b) answer.Exists (k entered.Exists) → On (step.Create p n b) answer.Gone (k entered.Gone)
      → Goes w own h (lifted from (create p n b) >>= k) Q
  unfolding Goes create ask lifted bind ◌>>=◌
  goes_create p n b k may d e g = (may, on_new (λ a. On (step.Create p n b) a (k (entered_of a))) d e g)

  pub goes_link : (p : Place) (n b : List ℕ) (k : Entered → Plan (Result B F)) → May w own h (step.Link p n b)
      → On (step.Link p n b) answer.Done (k entered.Done) → On (step.Link p n b) answer.Exists (k entered.Exists) → On (step.Link p n b) answer.Gone (k entered.Gone)
      → Goes w own h (lifted from (link p n b) >>= k) Q
  unfolding Goes link ask lifted bind ◌>>=◌
  goes_link p n b k may d e g = (may, on_new (λ a. On (step.Link p n b) a (k (entered_of a))) d e g)

  pub goes_rename : (p : Place) (n b : List ℕ) (k : Touched → Plan (Result B F)) → May w own h (step.Rename p n b)
      → On (step.Rename p n b) answer.Done (k touched.Done) → On (step.Rename p n b) answer.Gone (k touched.Gone)
      → Goes w own h (lifted from (rename p n b) >>= k) Q
  unfolding Goes rename ask lifted bind ◌>>=◌
  goes_rename p n b k may d g = (may, on_old (λ a. On (step.Rename p n b) a (k (touched_of a))) d g)

  pub goes_unlink : (p : Place) (n : List ℕ) (k : Touched → Plan (Result B F)) → May w own h (step.Unlink p n)
      → On (step.Unlink p n) answer.Done (k touched.Done) → On (step.Unlink p n) answer.Gone (k touched.Gone)
      → Goes w own h (lifted from (unlink p n) >>= k) Q
  unfolding Goes unlink ask lifted bind ◌>>=◌
  goes_unlink p n k may d g = (may, on_old (λ a. On (step.Unlink p n) a (k (touched_of a))) d g)

  pub goes_make : (p : Place) (k : FolderMade → Plan (Result B F)) → May w own h (step.MakeFolder p)
      → On (step.MakeFolder p) answer.Done (k folder_made.Done) → On (step.MakeFolder p) answer.Exists (k folder_made.Exists)
      → Goes w own h (lifted from (make_folder p) >>= k) Q
  unfolding Goes make_folder ask lifted bind ◌>>=◌
  goes_make p k may d e = (may, on_make (λ a. On (step.MakeFolder p) a (k (folder_made_of a))) d e)

  pub goes_cut : (f : FilePath) (n : ℕ) (k : DropCut → Plan (Result B F)) → May w own h (step.CutDrop f n)
      → On (step.CutDrop f n) answer.Done (k drop_cut.Done) → On (step.CutDrop f n) answer.Grown (k drop_cut.Grown) → On (step.CutDrop f n) answer.Gone (k drop_cut.Gone)
      → Goes w own h (lifted from (cut_drop f n) >>= k) Q
  unfolding Goes cut_drop ask lifted bind ◌>>=◌
  goes_cut f n k may d w_ g = (may, on_cut (λ a. On (step.CutDrop f n) a (k (drop_cut_of a))) d w_ g)

  -- steps that look need no leave
  pub goes_sync_file : (p : Place) (n : List ℕ) (k : Touched → Plan (Result B F)) → On (step.SyncFile p n) answer.Done (k touched.Done) → On (step.SyncFile p n) answer.Gone (k touched.Gone)
      → Goes w own h (lifted from (sync_file p n) >>= k) Q
  unfolding Goes sync_file ask lifted bind ◌>>=◌
  goes_sync_file p n k d g = ((λ s. (record { is_own = only_looks tt; marks = tt; steps = λ no. absurd (no tt) }, tt)), on_old (λ a. On (step.SyncFile p n) a (k (touched_of a))) d g)

  pub goes_sync_folder : (p : Place) (k : Touched → Plan (Result B F)) → On (step.SyncFolder p) answer.Done (k touched.Done) → On (step.SyncFolder p) answer.Gone (k touched.Gone)
      → Goes w own h (lifted from (sync_folder p) >>= k) Q
  unfolding Goes sync_folder ask lifted bind ◌>>=◌
  goes_sync_folder p k d g = ((λ s. (record { is_own = only_looks tt; marks = tt; steps = λ no. absurd (no tt) }, tt)), on_old (λ a. On (step.SyncFolder p) a (k (touched_of a))) d g)

  pub goes_list : (p : Place) (k : Listing → Plan (Result B F)) → ((names : List (List ℕ)) → On (step.List p) (answer.Names names) (k (listing.Names names))) → On (step.List p) answer.Gone (k listing.Gone)
      → Goes w own h (lifted from (list p) >>= k) Q
  unfolding Goes list ask lifted bind ◌>>=◌
  goes_list p k n g = ((λ s. (record { is_own = only_looks tt; marks = tt; steps = λ no. absurd (no tt) }, tt)), on_names (λ a. On (step.List p) a (k (listing_of a))) n g)

  pub goes_read : (p : Place) (n : List ℕ) (limit : ℕ) (k : Reading → Plan (Result B F)) → ((bytes : List ℕ) → On (step.Read p n limit) (answer.Content bytes) (k (reading.Content bytes)))
      → ((length : ℕ) → On (step.Read p n limit) (answer.Long length) (k (reading.Long length))) → On (step.Read p n limit) answer.Gone (k reading.Gone)
      → Goes w own h (lifted from (read p n limit) >>= k) Q
  unfolding Goes read ask lifted bind ◌>>=◌
  goes_read p n limit k c l g = ((λ s. (record { is_own = only_looks tt; marks = tt; steps = λ no. absurd (no tt) }, tt)), on_read (λ a. On (step.Read p n limit) a (k (reading_of a))) c l g)

  pub goes_read_drop : (f : FilePath) (from_ most : ℕ) (k : DropPiece → Plan (Result B F)) → ((bytes : List ℕ) (length_ : ℕ) → On (step.ReadDrop f from_ most) (answer.Piece bytes length_) (k (drop_piece.Piece bytes length_)))
      → On (step.ReadDrop f from_ most) answer.Gone (k drop_piece.Gone)
      → Goes w own h (lifted from (read_drop f from_ most) >>= k) Q
  unfolding Goes read_drop ask lifted bind ◌>>=◌
  goes_read_drop f from_ most k p g =
      ((λ s. (record { is_own = only_looks tt; marks = tt; steps = λ no. absurd (no tt) }, tt)), on_piece most (λ a. On (step.ReadDrop f from_ most) a (k (drop_piece_of a))) (λ bytes length_ short. p bytes length_) g)

  pub goes_lock : (p : Place) (k : Locking → Plan (Result B F)) → On (step.Lock p) answer.Done (k locking.Done) → On (step.Lock p) answer.Busy (k locking.Busy) → On (step.Lock p) answer.Gone (k locking.Gone)
      → Goes w own h (lifted from (lock p) >>= k) Q
  unfolding Goes lock ask lifted bind ◌>>=◌
  goes_lock p k d b g = ((λ s. (record { is_own = only_looks tt; marks = tt; steps = λ no. absurd (no tt) }, tt)), on_lock (λ a. On (step.Lock p) a (k (locking_of a))) d b g)

  pub goes_unlock : (p : Place) (k : Answer → Plan (Result B F)) → On (step.Unlock p) answer.Done (k answer.Done) → Goes w own h (lifted from (ask (step.Unlock p)) >>= k) Q
  unfolding Goes ask lifted bind ◌>>=◌
  goes_unlock p k d = ((λ s. (record { is_own = only_looks tt; marks = tt; steps = λ no. absurd (no tt) }, tt)), on_unlock (λ a. On (step.Unlock p) a (k a)) d)

-- a piece of output
pub goes_say : {B F : Type 0} (w : Pledge) (own : List deeds.Deed) (h : Hand) (from : SinkFault → F) (Q : Outcome (Result B F)) (piece : List ℕ) (k : Unit {0} → Plan (Result B F)) →
    (Sound w own h → w.may_tell own piece) → Goes w own h (k tt) Q → Goes w own h (lifted from (say piece) >>= k) Q
unfolding Goes say lifted bind ◌>>=◌
goes_say w own h from Q piece k may f = (may, f)

-- where a part is answered at once
pub goes_on : {A B E : Type 0} (w : Pledge) (own : List deeds.Deed) (h : Hand) (a : A) (k : A → Plan (Result B E)) (Q : Outcome (Result B E)) → Goes w own h (k a) Q → Goes w own h (Return (Ok a) >>= k) Q
unfolding Goes bind ◌>>=◌
goes_on w own h a k Q f = f

-- where it is refused, so is the whole
pub goes_stop : {A B E : Type 0} (w : Pledge) (own : List deeds.Deed) (h : Hand) (e : E) (k : A → Plan (Result B E)) (Q : Outcome B) → Goes w own h (Return (Err e) >>= k) (okay Q)
unfolding Goes bind ◌>>=◌
goes_stop w own h e k Q = tt

pub goes_end : {B E : Type 0} (w : Pledge) (own : List deeds.Deed) (h : Hand) (e : E) (Q : Outcome B) → Goes {R = Result B E} w own h (Return (Err e)) (okay Q)
unfolding Goes
goes_end w own h e Q = tt

pub goes_return : {B E : Type 0} (w : Pledge) (own : List deeds.Deed) (h : Hand) (b : B) (Q : Outcome (Result B E)) → Q own h (Ok b) → Goes w own h (Return (Ok b)) Q
unfolding Goes
goes_return w own h b Q q = q
