-- What each step of a plan meets, whatever is answered, where it may be asked for at all.
use Rattle.std.proofs.Common.{◌≡◌, ◌≢◌, ◌≤◌, ◌++◌, ◌∷◌, [], ℕ, List, Result, Ok, Err, length, ◌∙◌, ap}
use Rattle.mh_base.specs.declared.streams.SinkFault.{SinkFault}
use Rattle.folder_files.specs.Deeds.{Deed, did}
use Rattle.folder_files.specs.Rows.{IsAnswerOf}
use Rattle.folder_files.specs.declared.place.Place.{Place}
use Rattle.folder_files.specs.declared.step.Answer.{Answer}
use Rattle.folder_files.specs.declared.step.Answer.TheVariants as answer
use Rattle.folder_files.specs.declared.step.Step.{Step}
use Rattle.folder_files.specs.declared.step.Step.TheVariants as step
use Rattle.file_plans.specs.Asking.{list, read, make_folder, create, sync_file, sync_folder, link, rename, unlink, lock, listing_of, reading_of, folder_made_of, entered_of, touched_of, locking_of}
use Rattle.file_plans.specs.Framing.{AsksOnly}
use Rattle.file_plans.specs.Plan.{Hand, Plan, Return, Ask, Try, Say, Hear, Recall, Note, bind, after, ask, say, ◌>>=◌, converted, lifted}
use Rattle.file_plans.specs.Rules.{Keeps}
use Rattle.file_plans.specs.Runs.{Deed as Done, Did, Said, Heard}
use Rattle.file_plans.specs.declared.answers.Entered.{Entered}
use Rattle.file_plans.specs.declared.answers.Entered.TheVariants as entered
use Rattle.file_plans.specs.declared.answers.FolderMade.{FolderMade}
use Rattle.file_plans.specs.declared.answers.FolderMade.TheVariants as folder_made
use Rattle.file_plans.specs.declared.answers.Listing.{Listing}
use Rattle.file_plans.specs.declared.answers.Listing.TheVariants as listing
use Rattle.file_plans.specs.declared.answers.Locking.{Locking}
use Rattle.file_plans.specs.declared.answers.Locking.TheVariants as locking
use Rattle.file_plans.specs.declared.answers.Reading.{Reading}
use Rattle.file_plans.specs.declared.answers.Reading.TheVariants as reading
use Rattle.file_plans.specs.declared.answers.Touched.{Touched}
use Rattle.file_plans.specs.declared.answers.Touched.TheVariants as touched
use Rattle.file_plans.specs.declared.asking.Stop.{Stop}
use Rattle.file_plans.proofs.Acting.{acts, acts_append}
use Rattle.step_plans.specs.Pledges.{IsMarked, Marks, MayAsk, Pledge}
use Rattle.step_plans.proofs.Going.{Outcome, okay}
use Rattle.step_plans.proofs.Ruling.{rules_of}
use Rattle.step_plans.proofs.Stepping.{on_new, on_old, on_make, on_lock, on_names, on_read, on_unlock}

-- whatever is answered, each step that the plan asks for meets this where it may be asked for, and where the plan returns this holds of the
-- own deeds and the hand
unfoldable pub Meets : {R : Type 0} → (List Deed → Step → Type 0) → (List Deed → Step → Type 0) → List Deed → Hand → Plan R → Outcome R → Type 0
Meets May A own h (Return r) Q = Q own h r
Meets May A own h (Ask s next) Q = May own s → A own s × ((a : Answer) → IsAnswerOf s a → a ≢ answer.Failed → Meets May A (did s a ∷ own) h (next a) Q)
Meets May A own h (Try s next) Q = May own s → A own s × ((a : Answer) → IsAnswerOf s a → Meets May A (did s a ∷ own) h (next a) Q)
Meets May A own h (Say piece next) Q = Meets May A own h next Q
Meets May A own h (Hear most next) Q = (piece : List ℕ) → length piece ≤ most → Meets May A own h (next piece) Q
Meets May A own h (Recall next) Q = Meets May A own h (next h) Q
Meets May A own h (Note j next) Q = Meets May A own j next Q

module _ (May A : List Deed → Step → Type 0) where
  pub meets_bind : {S R : Type 0} (own : List Deed) (h : Hand) (p : Plan S) (k : S → Plan R) (P : Outcome S) (Q : Outcome R) → Meets May A own h p P
      → ((later : List Deed) (j : Hand) (r : S) → P later j r → Meets May A later j (k r) Q) → Meets May A own h (bind p k) Q
  unfolding Meets bind
  meets_bind own h (Return r) k P Q f g = g own h r f
  meets_bind own h (Ask s next) k P Q f g = λ m. ((f m).0, λ a row live. meets_bind (did s a ∷ own) h (next a) k P Q ((f m).1 a row live) g)
  meets_bind own h (Try s next) k P Q f g = λ m. ((f m).0, λ a row. meets_bind (did s a ∷ own) h (next a) k P Q ((f m).1 a row) g)
  meets_bind own h (Say piece next) k P Q f g = meets_bind own h next k P Q f g
  meets_bind own h (Hear most next) k P Q f g = λ piece short. meets_bind own h (next piece) k P Q (f piece short) g
  meets_bind own h (Recall next) k P Q f g = meets_bind own h (next h) k P Q f g
  meets_bind own h (Note j next) k P Q f g = meets_bind own j next k P Q f g

  meets_after : {S R E : Type 0} (own : List Deed) (h : Hand) (r : Result S E) (k : S → Plan (Result R E)) (P : Outcome S) (Q : Outcome R)
      → ((later : List Deed) (j : Hand) (a : S) → P later j a → Meets May A later j (k a) (okay Q)) → okay P own h r → Meets May A own h (after k r) (okay Q)
  unfolding Meets
  meets_after own h (Ok a) k P Q g p = g own h a p
  meets_after own h (Err e) k P Q g p = tt

  -- one part, and the next where it is Ok
  pub meets_then : {S R E : Type 0} (own : List Deed) (h : Hand) (p : Plan (Result S E)) (k : S → Plan (Result R E)) (P : Outcome S) (Q : Outcome R) → Meets May A own h p (okay P)
      → ((later : List Deed) (j : Hand) (a : S) → P later j a → Meets May A later j (k a) (okay Q)) → Meets May A own h (p >>= k) (okay Q)
  unfolding ◌>>=◌
  meets_then own h p k P Q f g = meets_bind own h p (after k) (okay P) (okay Q) f (λ later j r q. meets_after later j r k P Q g q)

  meets_lift : {S E F : Type 0} (own : List Deed) (h : Hand) (from : E → F) (P : Outcome S) (r : Result S E) → okay P own h r → Meets May A own h (Return (converted from r)) (okay P)
  unfolding Meets
  meets_lift own h from P (Ok a) p = p
  meets_lift own h from P (Err e) p = tt

  -- a part of the layer below
  pub meets_lifted : {S E F : Type 0} (own : List Deed) (h : Hand) (from : E → F) (p : Plan (Result S E)) (P : Outcome S) → Meets May A own h p (okay P) → Meets May A own h (lifted from p) (okay P)
  unfolding lifted
  meets_lifted own h from p P f = meets_bind own h p (λ r. Return (converted from r)) (okay P) (okay P) f (λ later j r q. meets_lift later j from P r q)

  -- a part whose outcome says more
  pub meets_more : {R : Type 0} (own : List Deed) (h : Hand) (p : Plan R) (P Q : Outcome R) → ((later : List Deed) (j : Hand) (r : R) → P later j r → Q later j r) → Meets May A own h p P → Meets May A own h p Q
  unfolding Meets
  meets_more own h (Return r) P Q f g = f own h r g
  meets_more own h (Ask s next) P Q f g = λ m. ((g m).0, λ a row live. meets_more (did s a ∷ own) h (next a) P Q f ((g m).1 a row live))
  meets_more own h (Try s next) P Q f g = λ m. ((g m).0, λ a row. meets_more (did s a ∷ own) h (next a) P Q f ((g m).1 a row))
  meets_more own h (Say piece next) P Q f g = meets_more own h next P Q f g
  meets_more own h (Hear most next) P Q f g = λ piece short. meets_more own h (next piece) P Q f (g piece short)
  meets_more own h (Recall next) P Q f g = meets_more own h (next h) P Q f g
  meets_more own h (Note j next) P Q f g = meets_more own j next P Q f g

  okay_so : {S E : Type 0} (P Q : Outcome S) → ((own : List Deed) (h : Hand) (a : S) → P own h a → Q own h a) → (own : List Deed) (h : Hand) (r : Result S E) → okay P own h r → okay Q own h r
  okay_so P Q f own h (Ok a) p = f own h a p
  okay_so P Q f own h (Err e) p = tt

  pub meets_okay : {S E : Type 0} (own : List Deed) (h : Hand) (p : Plan (Result S E)) (P Q : Outcome S) → ((later : List Deed) (j : Hand) (a : S) → P later j a → Q later j a) → Meets May A own h p (okay P)
      → Meets May A own h p (okay Q)
  meets_okay own h p P Q f g = meets_more own h p (okay P) (okay Q) (okay_so P Q f) g

  -- such steps, where they may be asked for, keep this fact of the deeds
  abbrev pub KeptSo : (Step → Type 0) → (List Deed → Type 0) → Type 0
  KeptSo P F = (own : List Deed) (s : Step) (a : Answer) → May own s → P s → F own → F (did s a ∷ own)

  -- what each of its steps keeps, the part keeps
  pub meets_framed : {R : Type 0} (P : Step → Type 0) (F : List Deed → Type 0) → KeptSo P F → (own : List Deed) (h : Hand) (p : Plan R) (Q : Outcome R) → AsksOnly P p → F own → Meets May A own h p Q
      → Meets May A own h p (λ later j r. F later × Q later j r)
  unfolding Meets AsksOnly
  meets_framed P F keeps own h (Return r) Q g i f = (i, f)
  meets_framed P F keeps own h (Ask s next) Q g i f = λ m. ((f m).0, λ a row live. meets_framed P F keeps (did s a ∷ own) h (next a) Q (g.1 a) (keeps own s a m g.0 i) ((f m).1 a row live))
  meets_framed P F keeps own h (Try s next) Q g i f = λ m. ((f m).0, λ a row. meets_framed P F keeps (did s a ∷ own) h (next a) Q (g.1 a) (keeps own s a m g.0 i) ((f m).1 a row))
  meets_framed P F keeps own h (Say piece next) Q g i f = meets_framed P F keeps own h next Q g i f
  meets_framed P F keeps own h (Hear most next) Q g i f = λ piece short. meets_framed P F keeps own h (next piece) Q (g piece) i (f piece short)
  meets_framed P F keeps own h (Recall next) Q g i f = meets_framed P F keeps own h (next h) Q (g h) i f
  meets_framed P F keeps own h (Note j next) Q g i f = meets_framed P F keeps own j next Q g i f

  okay_with : {S E : Type 0} (F : List Deed → Type 0) (P : Outcome S) (own : List Deed) (h : Hand) (r : Result S E) → F own × okay P own h r → okay (λ later j a. F later × P later j a) own h r
  okay_with F P own h (Ok a) f = f
  okay_with F P own h (Err e) f = tt

  pub meets_keeping : {S E : Type 0} (P : Step → Type 0) (F : List Deed → Type 0) → KeptSo P F → (own : List Deed) (h : Hand) (p : Plan (Result S E)) (O : Outcome S) → AsksOnly P p → F own → Meets May A own h p (okay O)
      → Meets May A own h p (okay (λ later j a. F later × O later j a))
  meets_keeping P F keeps own h p O asks f g =
      meets_more own h p (λ later j r. F later × okay O later j r) (okay (λ later j a. F later × O later j a)) (okay_with F O) (meets_framed P F keeps own h p (okay O) asks f g)

  -- a part all of whose steps meet it where this fact holds, which they keep
  pub meets_all : {R : Type 0} (P : Step → Type 0) (F : List Deed → Type 0) → KeptSo P F → ((own : List Deed) (s : Step) → May own s → P s → F own → A own s) → (own : List Deed) (h : Hand) (p : Plan R) → AsksOnly P p → F own
      → Meets May A own h p (λ later j r. F later)
  unfolding Meets AsksOnly
  meets_all P F keeps so own h (Return r) g i = i
  meets_all P F keeps so own h (Ask s next) g i = λ m. (so own s m g.0 i, λ a row live. meets_all P F keeps so (did s a ∷ own) h (next a) (g.1 a) (keeps own s a m g.0 i))
  meets_all P F keeps so own h (Try s next) g i = λ m. (so own s m g.0 i, λ a row. meets_all P F keeps so (did s a ∷ own) h (next a) (g.1 a) (keeps own s a m g.0 i))
  meets_all P F keeps so own h (Say piece next) g i = meets_all P F keeps so own h next g i
  meets_all P F keeps so own h (Hear most next) g i = λ piece short. meets_all P F keeps so own h (next piece) (g piece) i
  meets_all P F keeps so own h (Recall next) g i = meets_all P F keeps so own h (next h) (g h) i
  meets_all P F keeps so own h (Note j next) g i = meets_all P F keeps so own j next g i

  okay_all : {S E : Type 0} (F : List Deed → Type 0) (own : List Deed) (h : Hand) (r : Result S E) → F own → okay (λ later j (a : S). F later) own h r
  okay_all F own h (Ok a) f = f
  okay_all F own h (Err e) f = tt

  pub meets_quietly : {S E : Type 0} (P : Step → Type 0) (F : List Deed → Type 0) → KeptSo P F → ((own : List Deed) (s : Step) → May own s → P s → F own → A own s) → (own : List Deed) (h : Hand) (p : Plan (Result S E)) → AsksOnly P p → F own
      → Meets May A own h p (okay (λ later j (a : S). F later))
  meets_quietly P F keeps so own h p g i = meets_more own h p (λ later j r. F later) (okay (λ later j a. F later)) (okay_all F) (meets_all P F keeps so own h p g i)

  module _ {B F : Type 0} (own : List Deed) (h : Hand) (from : Stop → F) (Q : Outcome (Result B F)) where
    -- how the plan goes on after the step was answered so
    abbrev pub On : Step → Answer → Plan (Result B F) → Type 0
    On s a p = Meets May A (did s a ∷ own) h p Q

    pub meets_create : (p : Place) (n b : List ℕ) (k : Entered → Plan (Result B F))
        → (May own (step.Create p n b) → A own (step.Create p n b) × On (step.Create p n b) answer.Done (k entered.Done) × On (step.Create p n b) answer.Exists (k entered.Exists) × On (step.Create p n b) answer.Gone (k entered.Gone))
        → Meets May A own h (lifted from (create p n b) >>= k) Q
    unfolding Meets create ask lifted bind ◌>>=◌
    meets_create p n b k f = λ m. ((f m).0, on_new (λ a. On (step.Create p n b) a (k (entered_of a))) (f m).1 (f m).2 (f m).3)

    pub meets_link : (p : Place) (n b : List ℕ) (k : Entered → Plan (Result B F))
        → (May own (step.Link p n b) → A own (step.Link p n b) × On (step.Link p n b) answer.Done (k entered.Done) × On (step.Link p n b) answer.Exists (k entered.Exists) × On (step.Link p n b) answer.Gone (k entered.Gone))
        → Meets May A own h (lifted from (link p n b) >>= k) Q
    unfolding Meets link ask lifted bind ◌>>=◌
    meets_link p n b k f = λ m. ((f m).0, on_new (λ a. On (step.Link p n b) a (k (entered_of a))) (f m).1 (f m).2 (f m).3)

    pub meets_rename : (p : Place) (n b : List ℕ) (k : Touched → Plan (Result B F))
        → (May own (step.Rename p n b) → A own (step.Rename p n b) × On (step.Rename p n b) answer.Done (k touched.Done) × On (step.Rename p n b) answer.Gone (k touched.Gone))
        → Meets May A own h (lifted from (rename p n b) >>= k) Q
    unfolding Meets rename ask lifted bind ◌>>=◌
    meets_rename p n b k f = λ m. ((f m).0, on_old (λ a. On (step.Rename p n b) a (k (touched_of a))) (f m).1 (f m).2)

    pub meets_unlink : (p : Place) (n : List ℕ) (k : Touched → Plan (Result B F))
        → (May own (step.Unlink p n) → A own (step.Unlink p n) × On (step.Unlink p n) answer.Done (k touched.Done) × On (step.Unlink p n) answer.Gone (k touched.Gone))
        → Meets May A own h (lifted from (unlink p n) >>= k) Q
    unfolding Meets unlink ask lifted bind ◌>>=◌
    meets_unlink p n k f = λ m. ((f m).0, on_old (λ a. On (step.Unlink p n) a (k (touched_of a))) (f m).1 (f m).2)

    pub meets_make : (p : Place) (k : FolderMade → Plan (Result B F))
        → (May own (step.MakeFolder p) → A own (step.MakeFolder p) × On (step.MakeFolder p) answer.Done (k folder_made.Done) × On (step.MakeFolder p) answer.Exists (k folder_made.Exists))
        → Meets May A own h (lifted from (make_folder p) >>= k) Q
    unfolding Meets make_folder ask lifted bind ◌>>=◌
    meets_make p k f = λ m. ((f m).0, on_make (λ a. On (step.MakeFolder p) a (k (folder_made_of a))) (f m).1 (f m).2)

    pub meets_sync_file : (p : Place) (n : List ℕ) (k : Touched → Plan (Result B F))
        → (May own (step.SyncFile p n) → A own (step.SyncFile p n) × On (step.SyncFile p n) answer.Done (k touched.Done) × On (step.SyncFile p n) answer.Gone (k touched.Gone))
        → Meets May A own h (lifted from (sync_file p n) >>= k) Q
    unfolding Meets sync_file ask lifted bind ◌>>=◌
    meets_sync_file p n k f = λ m. ((f m).0, on_old (λ a. On (step.SyncFile p n) a (k (touched_of a))) (f m).1 (f m).2)

    pub meets_sync_folder : (p : Place) (k : Touched → Plan (Result B F))
        → (May own (step.SyncFolder p) → A own (step.SyncFolder p) × On (step.SyncFolder p) answer.Done (k touched.Done) × On (step.SyncFolder p) answer.Gone (k touched.Gone))
        → Meets May A own h (lifted from (sync_folder p) >>= k) Q
    unfolding Meets sync_folder ask lifted bind ◌>>=◌
    meets_sync_folder p k f = λ m. ((f m).0, on_old (λ a. On (step.SyncFolder p) a (k (touched_of a))) (f m).1 (f m).2)

    pub meets_list : (p : Place) (k : Listing → Plan (Result B F))
        → (May own (step.List p) → A own (step.List p) × ((names : List (List ℕ)) → On (step.List p) (answer.Names names) (k (listing.Names names))) × On (step.List p) answer.Gone (k listing.Gone))
        → Meets May A own h (lifted from (list p) >>= k) Q
    unfolding Meets list ask lifted bind ◌>>=◌
    meets_list p k f = λ m. ((f m).0, on_names (λ a. On (step.List p) a (k (listing_of a))) (f m).1 (f m).2)

    pub meets_read : (p : Place) (n : List ℕ) (limit : ℕ) (k : Reading → Plan (Result B F))
        → (May own (step.Read p n limit) → A own (step.Read p n limit) × ((bytes : List ℕ) → On (step.Read p n limit) (answer.Content bytes) (k (reading.Content bytes)))
        × ((length : ℕ) → On (step.Read p n limit) (answer.Long length) (k (reading.Long length))) × On (step.Read p n limit) answer.Gone (k reading.Gone))
        → Meets May A own h (lifted from (read p n limit) >>= k) Q
    unfolding Meets read ask lifted bind ◌>>=◌
    meets_read p n limit k f = λ m. ((f m).0, on_read (λ a. On (step.Read p n limit) a (k (reading_of a))) (f m).1 (f m).2 (f m).3)

    pub meets_lock : (p : Place) (k : Locking → Plan (Result B F))
        → (May own (step.Lock p) → A own (step.Lock p) × On (step.Lock p) answer.Done (k locking.Done) × On (step.Lock p) answer.Busy (k locking.Busy) × On (step.Lock p) answer.Gone (k locking.Gone))
        → Meets May A own h (lifted from (lock p) >>= k) Q
    unfolding Meets lock ask lifted bind ◌>>=◌
    meets_lock p k f = λ m. ((f m).0, on_lock (λ a. On (step.Lock p) a (k (locking_of a))) (f m).1 (f m).2 (f m).3)

    pub meets_unlock : (p : Place) (k : Answer → Plan (Result B F)) → (May own (step.Unlock p) → A own (step.Unlock p) × On (step.Unlock p) answer.Done (k answer.Done)) → Meets May A own h (lifted from (ask (step.Unlock p)) >>= k) Q
    unfolding Meets ask lifted bind ◌>>=◌
    meets_unlock p k f = λ m. ((f m).0, on_unlock (λ a. On (step.Unlock p) a (k a)) (f m).1)

  -- a piece of output
  pub meets_say : {R E : Type 0} (own : List Deed) (h : Hand) (from : SinkFault → E) (Q : Outcome (Result R E)) (piece : List ℕ) (k : Unit {0} → Plan (Result R E)) → Meets May A own h (k tt) Q → Meets May A own h (lifted from (say piece) >>= k) Q
  unfolding Meets say lifted bind ◌>>=◌
  meets_say own h from Q piece k f = f

  -- where a part is answered at once
  pub meets_on : {S R E : Type 0} (own : List Deed) (h : Hand) (a : S) (k : S → Plan (Result R E)) (Q : Outcome (Result R E)) → Meets May A own h (k a) Q → Meets May A own h (Return (Ok a) >>= k) Q
  unfolding Meets bind ◌>>=◌
  meets_on own h a k Q f = f

  -- where it is refused, so is the whole
  pub meets_stop : {S R E : Type 0} (own : List Deed) (h : Hand) (e : E) (k : S → Plan (Result R E)) (Q : Outcome R) → Meets May A own h (Return (Err e) >>= k) (okay Q)
  unfolding Meets bind ◌>>=◌
  meets_stop own h e k Q = tt

  pub meets_end : {R E : Type 0} (own : List Deed) (h : Hand) (e : E) (Q : Outcome R) → Meets {R = Result R E} May A own h (Return (Err e)) (okay Q)
  unfolding Meets
  meets_end own h e Q = tt

  pub meets_return : {R E : Type 0} (own : List Deed) (h : Hand) (b : R) (Q : Outcome (Result R E)) → Q own h (Ok b) → Meets May A own h (Return (Ok b)) Q
  unfolding Meets
  meets_return own h b Q q = q

-- the pledge that asks this of its steps besides
abbrev pub with_step : Pledge → (List Deed → Step → Type 0) → Pledge
with_step w A = record { run = w.run; manner = w.manner; may_mark = w.may_mark; may_tell = w.may_tell; may_step = λ own s. w.may_step own s × A own s }

module _ (w : Pledge) (A : List Deed → Step → Type 0) where
  marked_with : (p : Place) (temp name : List ℕ) (own : List Deed) → IsMarked w p temp name own → IsMarked (with_step w A) p temp name own
  marked_with p temp name own m = record { old = m.old; new = m.new; is_base = m.is_base; created = m.created; made = m.made }

  marks_with : (own : List Deed) (s : Step) → Marks w own s → Marks (with_step w A) own s
  marks_with own (step.List p) m = tt
  marks_with own (step.Read p n limit) m = tt
  marks_with own (step.MakeFolder p) m = tt
  marks_with own (step.Create p n b) m = tt
  marks_with own (step.SyncFile p n) m = tt
  marks_with own (step.SyncFolder p) m = tt
  marks_with own (step.Link p a b) m = tt
  marks_with own (step.Rename p temp name) m = λ is. marked_with p temp name own (m is)
  marks_with own (step.Unlink p a) m = tt
  marks_with own (step.Lock p) m = tt
  marks_with own (step.Unlock p) m = tt
  marks_with own (step.ReadFile f limit) m = tt
  marks_with own (step.ReadDrop f from most) m = tt
  marks_with own (step.CutDrop f length_) m = tt

  pub may_with : (own : List Deed) (s : Step) → MayAsk w own s → A own s → MayAsk (with_step w A) own s
  may_with own s m a = record { is_own = m.is_own; marks = marks_with own s m.marks; steps = λ no. (m.steps no, a) }

  did_more : (past : List Done) (own : List Deed) (s : Step) (a : Answer) → acts past ≡ own → acts (past ++ Did s a ∷ []) ≡ did s a ∷ own
  did_more past own s a e = acts_append [] past (Did s a ∷ []) ∙ ap (λ o. did s a ∷ o) e

  -- a plan that keeps a pledge, and each of whose steps meets this besides
  pub keeps_met : {R : Type 0} (past : List Done) (own : List Deed) (h : Hand) (p : Plan R) (Q : List Done → Hand → R → Type 0) (P : Outcome R) → acts past ≡ own → Keeps (rules_of w) past h p Q → Meets (MayAsk w) A own h p P
      → Keeps (rules_of (with_step w A)) past h p Q
  unfolding Keeps Meets
  keeps_met past own h (Return r) Q P e f g = f
  keeps_met past own h (Ask s next) Q P e f g = let may = rw e at f.1 in let met = g may in (
    f.0,
    rw e (may_with own s may met.0),
    f.2,
    λ a row live. keeps_met (past ++ Did s a ∷ []) (did s a ∷ own) h (next a) Q P (did_more past own s a e) (f.3 a row live) (met.1 a row live),
  )
  keeps_met past own h (Try s next) Q P e f g = let may = rw e at f.1 in let met = g may in (
    f.0,
    rw e (may_with own s may met.0),
    λ a row. keeps_met (past ++ Did s a ∷ []) (did s a ∷ own) h (next a) Q P (did_more past own s a e) (f.2 a row) (met.1 a row),
  )
  keeps_met past own h (Say piece next) Q P e f g = (f.0, f.1, f.2, keeps_met (past ++ Said piece ∷ []) own h next Q P (acts_append [] past (Said piece ∷ []) ∙ e) f.3 g)
  keeps_met past own h (Hear most next) Q P e f g = (f.0, f.1, λ piece short. keeps_met (past ++ Heard piece ∷ []) own h (next piece) Q P (acts_append [] past (Heard piece ∷ []) ∙ e) (f.2 piece short) (g piece short))
  keeps_met past own h (Recall next) Q P e f g = keeps_met past own h (next h) Q P e f g
  keeps_met past own h (Note j next) Q P e f g = (f.0, keeps_met past own j next Q P e f.1 g)

-- what is met where more is
pub meets_weaker : {R : Type 0} (May A B : List Deed → Step → Type 0) → ((own : List Deed) (s : Step) → A own s → B own s) → (own : List Deed) (h : Hand) (p : Plan R) (Q : Outcome R) → Meets May A own h p Q → Meets May B own h p Q
unfolding Meets
meets_weaker May A B f own h (Return r) Q g = g
meets_weaker May A B f own h (Ask s next) Q g = λ m. (f own s (g m).0, λ a row live. meets_weaker May A B f (did s a ∷ own) h (next a) Q ((g m).1 a row live))
meets_weaker May A B f own h (Try s next) Q g = λ m. (f own s (g m).0, λ a row. meets_weaker May A B f (did s a ∷ own) h (next a) Q ((g m).1 a row))
meets_weaker May A B f own h (Say piece next) Q g = meets_weaker May A B f own h next Q g
meets_weaker May A B f own h (Hear most next) Q g = λ piece short. meets_weaker May A B f own h (next piece) Q (g piece short)
meets_weaker May A B f own h (Recall next) Q g = meets_weaker May A B f own h (next h) Q g
meets_weaker May A B f own h (Note j next) Q g = meets_weaker May A B f own j next Q g
