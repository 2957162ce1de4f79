-- How plans end, by a run's own deeds, the newest first: what holds where a plan returns, whatever was answered.
use Rattle.std.proofs.Common.{◌≡◌, ◌≢◌, ◌≤◌, inl, inr, ◌++◌, ◌∷◌, [], ℕ, List, Result, Ok, Err, length, ◌∙◌, ap}
use Rattle.folder_files.specs.Deeds as deeds
use Rattle.folder_files.specs.Deeds.{did}
use Rattle.folder_files.specs.Rows.{IsAnswerOf}
use Rattle.folder_files.specs.declared.place.Place.{Place}
use Rattle.folder_files.specs.declared.step.Step.{Step}
use Rattle.folder_files.specs.declared.step.Step.TheVariants as step
use Rattle.folder_files.specs.declared.step.Answer.{Answer}
use Rattle.folder_files.specs.declared.step.Answer.TheVariants as answer
use Rattle.mh_base.specs.declared.streams.SinkFault.{SinkFault}
use Rattle.file_plans.specs.Asking.{list, read, make_folder, create, sync_file, sync_folder, rename, unlink, lock, listing_of, reading_of, folder_made_of, entered_of, touched_of, locking_of}
use Rattle.file_plans.specs.Framing.{AsksOnly}
use Rattle.file_plans.specs.Plan.{Hand, Plan, Return, Ask, Try, Say, Hear, Recall, Note, bind, after, ask, say, ◌>>=◌, converted, lifted}
use Rattle.file_plans.specs.Rules.{Rules, Keeps}
use Rattle.file_plans.specs.Runs.{Deed, Did, Heard, Said}
use Rattle.file_plans.specs.Sightings.{Made, IsFailed}
use Rattle.file_plans.specs.declared.answers.Entered.{Entered}
use Rattle.file_plans.specs.declared.answers.Entered.TheVariants as entered
use Rattle.file_plans.specs.declared.answers.FolderMade.{FolderMade}
use Rattle.file_plans.specs.declared.answers.FolderMade.TheVariants as folder_made
use Rattle.file_plans.specs.declared.answers.Listing.{Listing}
use Rattle.file_plans.specs.declared.answers.Listing.TheVariants as listing
use Rattle.file_plans.specs.declared.answers.Locking.{Locking}
use Rattle.file_plans.specs.declared.answers.Locking.TheVariants as locking
use Rattle.file_plans.specs.declared.answers.Reading.{Reading}
use Rattle.file_plans.specs.declared.answers.Reading.TheVariants as reading
use Rattle.file_plans.specs.declared.answers.Touched.{Touched}
use Rattle.file_plans.specs.declared.answers.Touched.TheVariants as touched
use Rattle.file_plans.specs.declared.asking.Stop.{Stop}
use Rattle.file_plans.proofs.Acting.{acts, acts_append}
use Rattle.step_plans.proofs.Going.{Outcome}
use Rattle.step_plans.proofs.Lasting.{KeptBy}
use Rattle.step_plans.proofs.Stepping.{on_new, on_old, on_make, on_lock, on_unlock, on_names, on_read}

-- whatever is answered and heard, this holds where the plan returns. A plan that comes so ends at the first failure.
unfoldable pub Comes : {R : Type 0} → List deeds.Deed → Hand → Plan R → Outcome R → Type 0
Comes own h (Return r) Q = Q own h r
Comes own h (Ask s next) Q = (a : Answer) → IsAnswerOf s a → a ≢ answer.Failed → Comes (did s a ∷ own) h (next a) Q
Comes own h (Try s next) Q = ⊥
Comes own h (Say piece next) Q = Comes own h next Q
Comes own h (Hear most next) Q = (piece : List ℕ) → length piece ≤ most → Comes own h (next piece) Q
Comes own h (Recall next) Q = Comes own h (next h) Q
Comes own h (Note j next) Q = Comes own j next Q

pub comes_bind : {A B : Type 0} (own : List deeds.Deed) (h : Hand) (p : Plan A) (k : A → Plan B) (P : Outcome A) (Q : Outcome B) →
    Comes own h p P → ((later : List deeds.Deed) (j : Hand) (a : A) → P later j a → Comes later j (k a) Q) → Comes own h (bind p k) Q
unfolding Comes bind
comes_bind own h (Return r) k P Q f g = g own h r f
comes_bind own h (Ask s next) k P Q f g = λ a row live. comes_bind (did s a ∷ own) h (next a) k P Q (f a row live) g
comes_bind own h (Try s next) k P Q f g = absurd f
comes_bind own h (Say piece next) k P Q f g = comes_bind own h next k P Q f g
comes_bind own h (Hear most next) k P Q f g = λ piece short. comes_bind own h (next piece) k P Q (f piece short) g
comes_bind own h (Recall next) k P Q f g = comes_bind own h (next h) k P Q f g
comes_bind own h (Note j next) k P Q f g = comes_bind own j next k P Q f g

-- a plan has returned
pub comes_to : {R : Type 0} (own : List deeds.Deed) (h : Hand) (r : R) (Q : Outcome R) → Q own h r → Comes own h (Return r) Q
unfolding Comes
comes_to own h r Q q = q

-- a part that is Ok at once
pub comes_on : {A B E : Type 0} (own : List deeds.Deed) (h : Hand) (a : A) (k : A → Plan (Result B E)) (Q : Outcome (Result B E)) → Comes own h (k a) Q → Comes own h (Return (Ok a) >>= k) Q
unfolding Comes bind ◌>>=◌
comes_on own h a k Q f = f

-- one that is refused at once
pub comes_stop : {A B E : Type 0} (own : List deeds.Deed) (h : Hand) (e : E) (k : A → Plan (Result B E)) (Q : Outcome (Result B E)) → Q own h (Err e) → Comes own h (Return (Err e) >>= k) Q
unfolding Comes bind ◌>>=◌
comes_stop own h e k Q q = q

-- a part whose outcome says more
pub comes_more : {R : Type 0} (own : List deeds.Deed) (h : Hand) (p : Plan R) (P Q : Outcome R) → ((later : List deeds.Deed) (j : Hand) (r : R) → P later j r → Q later j r) → Comes own h p P → Comes own h p Q
unfolding Comes
comes_more own h (Return r) P Q f g = f own h r g
comes_more own h (Ask s next) P Q f g = λ a row live. comes_more (did s a ∷ own) h (next a) P Q f (g a row live)
comes_more own h (Try s next) P Q f g = absurd g
comes_more own h (Say piece next) P Q f g = comes_more own h next P Q f g
comes_more own h (Hear most next) P Q f g = λ piece short. comes_more own h (next piece) P Q f (g piece short)
comes_more own h (Recall next) P Q f g = comes_more own h (next h) P Q f g
comes_more own h (Note j next) P Q f g = comes_more own j next P Q f g

-- one part, and the next where it is Ok
pub comes_then : {A B E : Type 0} (own : List deeds.Deed) (h : Hand) (p : Plan (Result A E)) (k : A → Plan (Result B E)) (P : Outcome (Result A E)) (Q : Outcome (Result B E)) →
    Comes own h p P → ((later : List deeds.Deed) (j : Hand) (a : A) → P later j (Ok a) → Comes later j (k a) Q) → ((later : List deeds.Deed) (j : Hand) (e : E) → P later j (Err e) → Q later j (Err e)) → Comes own h (p >>= k) Q
unfolding ◌>>=◌
comes_then own h p k P Q f g stop = comes_bind own h p (after k) P Q f go
  where
    go : (later : List deeds.Deed) (j : Hand) (r : Result _ _) → P later j r → Comes later j (after k r) Q
    go later j (Ok a) q = g later j a q
    go later j (Err e) q = comes_to later j (Err e) Q (stop later j e q)

-- a part of the layer below
pub comes_lifted : {A E F : Type 0} (own : List deeds.Deed) (h : Hand) (from : E → F) (p : Plan (Result A E)) (P : Outcome (Result A E)) (Q : Outcome (Result A F)) →
    Comes own h p P → ((later : List deeds.Deed) (j : Hand) (a : A) → P later j (Ok a) → Q later j (Ok a)) → ((later : List deeds.Deed) (j : Hand) (e : E) → P later j (Err e) → Q later j (Err (from e))) → Comes own h (lifted from p) Q
unfolding lifted
comes_lifted own h from p P Q f okay stop = comes_bind own h p (λ r. Return (converted from r)) P Q f go
  where
    go : (later : List deeds.Deed) (j : Hand) (r : Result _ _) → P later j r → Comes later j (Return (converted from r)) Q
    go later j (Ok a) q = comes_to later j (Ok a) Q (okay later j a q)
    go later j (Err e) q = comes_to later j (Err (from e)) Q (stop later j e q)

-- what each of its steps keeps, holds where the plan returns
pub comes_framed : {R : Type 0} (P : Step → Type 0) (F : List deeds.Deed → Type 0) → KeptBy P F → (own : List deeds.Deed) (h : Hand) (p : Plan R) (Q : Outcome R)
    → AsksOnly P p → F own → Comes own h p Q → Comes own h p (λ later j r. F later × Q later j r)
unfolding Comes AsksOnly
comes_framed P F keeps own h (Return r) Q g i f = (i, f)
comes_framed P F keeps own h (Ask s next) Q g i f = λ a row live. comes_framed P F keeps (did s a ∷ own) h (next a) Q (g.1 a) (keeps own s a g.0 i) (f a row live)
comes_framed P F keeps own h (Try s next) Q g i f = absurd f
comes_framed P F keeps own h (Say piece next) Q g i f = comes_framed P F keeps own h next Q g i f
comes_framed P F keeps own h (Hear most next) Q g i f = λ piece short. comes_framed P F keeps own h (next piece) Q (g piece) i (f piece short)
comes_framed P F keeps own h (Recall next) Q g i f = comes_framed P F keeps own h (next h) Q (g h) i f
comes_framed P F keeps own h (Note j next) Q g i f = comes_framed P F keeps own j next Q g i f

-- no step was answered Failed
abbrev pub NoneFailed : List deeds.Deed → Type 0
NoneFailed own = Made IsFailed own → ⊥

-- where a plan returns, none of its steps has failed
pub comes_clean : {R : Type 0} (own : List deeds.Deed) (h : Hand) (p : Plan R) (Q : Outcome R) → NoneFailed own → Comes own h p Q → Comes own h p (λ later j r. NoneFailed later × Q later j r)
unfolding Comes
comes_clean own h (Return r) Q c f = (c, f)
comes_clean own h (Ask s next) Q c f = λ a row live. comes_clean (did s a ∷ own) h (next a) Q (one a live) (f a row live)
  where
    one : (a : Answer) → a ≢ answer.Failed → NoneFailed (did s a ∷ own)
    one a live (inl e) = live e
    one a live (inr m) = c m
comes_clean own h (Try s next) Q c f = absurd f
comes_clean own h (Say piece next) Q c f = comes_clean own h next Q c f
comes_clean own h (Hear most next) Q c f = λ piece short. comes_clean own h (next piece) Q c (f piece short)
comes_clean own h (Recall next) Q c f = comes_clean own h (next h) Q c f
comes_clean own h (Note j next) Q c f = comes_clean own j next Q c f

-- the rules that ask nothing, and let the input be heard
abbrev pub anything : Rules
anything = record { may_ask = λ past step. Unit {0}; may_say = λ past piece. Unit {0}; may_hear = λ past. Unit {0}; holds = λ past hand. Unit {0} }

-- what holds of the deeds, by their steps alone
abbrev pub OfActs : {R : Type 0} → Outcome R → List Deed → Hand → R → Type 0
OfActs Q past h r = Q (acts past) h r

pub comes_keeps : {R : Type 0} (past : List Deed) (own : List deeds.Deed) (h : Hand) (p : Plan R) (Q : Outcome R) → acts past ≡ own → Comes own h p Q → Keeps anything past h p (OfActs Q)
unfolding Keeps Comes
comes_keeps past own h (Return r) Q e f = (tt, rw e f)
comes_keeps past own h (Ask s next) Q e f =
    let on_ : (a : Answer) → acts (past ++ Did s a ∷ []) ≡ did s a ∷ own = (λ a. acts_append [] past (Did s a ∷ []) ∙ ap (λ o. did s a ∷ o) e) in
    (tt, tt, tt, λ a row live. comes_keeps (past ++ Did s a ∷ []) (did s a ∷ own) h (next a) Q (on_ a) (f a row live))
comes_keeps past own h (Try s next) Q e f = absurd f
comes_keeps past own h (Say piece next) Q e f = (tt, tt, (λ part rest is. tt), comes_keeps (past ++ Said piece ∷ []) own h next Q (acts_append [] past (Said piece ∷ []) ∙ e) f)
comes_keeps past own h (Hear most next) Q e f = (tt, tt, λ piece short. comes_keeps (past ++ Heard piece ∷ []) own h (next piece) Q (acts_append [] past (Heard piece ∷ []) ∙ e) (f piece short))
comes_keeps past own h (Recall next) Q e f = comes_keeps past own h (next h) Q e f
comes_keeps past own h (Note j next) Q e f = (tt, comes_keeps past own j next Q e f)

-- one step, and then the rest: an alternative for each answer of its row
module _ {B F : Type 0} (own : List deeds.Deed) (h : Hand) (from : Stop → F) (Q : Outcome (Result B F)) where
  abbrev pub On : Step → Answer → Plan (Result B F) → Type 0
  On s a p = Comes (did s a ∷ own) h p Q

  pub comes_make : (p : Place) (k : FolderMade → Plan (Result B F)) → On (step.MakeFolder p) answer.Done (k folder_made.Done) → On (step.MakeFolder p) answer.Exists (k folder_made.Exists)
      → Comes own h (lifted from (make_folder p) >>= k) Q
  unfolding Comes make_folder ask lifted bind ◌>>=◌
  comes_make p k d e = on_make (λ a. On (step.MakeFolder p) a (k (folder_made_of a))) d e

  pub comes_lock : (p : Place) (k : Locking → Plan (Result B F)) → On (step.Lock p) answer.Done (k locking.Done) → On (step.Lock p) answer.Busy (k locking.Busy) → On (step.Lock p) answer.Gone (k locking.Gone)
      → Comes own h (lifted from (lock p) >>= k) Q
  unfolding Comes lock ask lifted bind ◌>>=◌
  comes_lock p k d b g = on_lock (λ a. On (step.Lock p) a (k (locking_of a))) d b g

  pub comes_unlock : (p : Place) (k : Answer → Plan (Result B F)) → On (step.Unlock p) answer.Done (k answer.Done) → Comes own h (lifted from (ask (step.Unlock p)) >>= k) Q
  unfolding Comes ask lifted bind ◌>>=◌
  comes_unlock p k d = on_unlock (λ a. On (step.Unlock p) a (k a)) d

  pub comes_list : (p : Place) (k : Listing → Plan (Result B F)) → ((names : List (List ℕ)) → On (step.List p) (answer.Names names) (k (listing.Names names))) → On (step.List p) answer.Gone (k listing.Gone)
      → Comes own h (lifted from (list p) >>= k) Q
  unfolding Comes list ask lifted bind ◌>>=◌
  comes_list p k n g = on_names (λ a. On (step.List p) a (k (listing_of a))) n g

  pub comes_read : (p : Place) (n : List ℕ) (limit : ℕ) (k : Reading → Plan (Result B F)) → ((bytes : List ℕ) → On (step.Read p n limit) (answer.Content bytes) (k (reading.Content bytes)))
      → ((l : ℕ) → On (step.Read p n limit) (answer.Long l) (k (reading.Long l))) → On (step.Read p n limit) answer.Gone (k reading.Gone) → Comes own h (lifted from (read p n limit) >>= k) Q
  unfolding Comes read ask lifted bind ◌>>=◌
  comes_read p n limit k c l g = on_read (λ a. On (step.Read p n limit) a (k (reading_of a))) c l g

  pub comes_create : (p : Place) (n b : List ℕ) (k : Entered → Plan (Result B F)) → On (step.Create p n b) answer.Done (k entered.Done) → On (step.Create p n b) answer.Exists (k entered.Exists) → On (step.Create p n b) answer.Gone (k entered.Gone)
      → Comes own h (lifted from (create p n b) >>= k) Q
  unfolding Comes create ask lifted bind ◌>>=◌
  comes_create p n b k d e g = on_new (λ a. On (step.Create p n b) a (k (entered_of a))) d e g

  pub comes_sync_file : (p : Place) (n : List ℕ) (k : Touched → Plan (Result B F)) → On (step.SyncFile p n) answer.Done (k touched.Done) → On (step.SyncFile p n) answer.Gone (k touched.Gone)
      → Comes own h (lifted from (sync_file p n) >>= k) Q
  unfolding Comes sync_file ask lifted bind ◌>>=◌
  comes_sync_file p n k d g = on_old (λ a. On (step.SyncFile p n) a (k (touched_of a))) d g

  pub comes_sync_folder : (p : Place) (k : Touched → Plan (Result B F)) → On (step.SyncFolder p) answer.Done (k touched.Done) → On (step.SyncFolder p) answer.Gone (k touched.Gone)
      → Comes own h (lifted from (sync_folder p) >>= k) Q
  unfolding Comes sync_folder ask lifted bind ◌>>=◌
  comes_sync_folder p k d g = on_old (λ a. On (step.SyncFolder p) a (k (touched_of a))) d g

  pub comes_rename : (p : Place) (a b : List ℕ) (k : Touched → Plan (Result B F)) → On (step.Rename p a b) answer.Done (k touched.Done) → On (step.Rename p a b) answer.Gone (k touched.Gone)
      → Comes own h (lifted from (rename p a b) >>= k) Q
  unfolding Comes rename ask lifted bind ◌>>=◌
  comes_rename p x y k d g = on_old (λ a. On (step.Rename p x y) a (k (touched_of a))) d g

  pub comes_unlink : (p : Place) (n : List ℕ) (k : Touched → Plan (Result B F)) → On (step.Unlink p n) answer.Done (k touched.Done) → On (step.Unlink p n) answer.Gone (k touched.Gone)
      → Comes own h (lifted from (unlink p n) >>= k) Q
  unfolding Comes unlink ask lifted bind ◌>>=◌
  comes_unlink p n k d g = on_old (λ a. On (step.Unlink p n) a (k (touched_of a))) d g

-- a piece of output
pub comes_say : {B F : Type 0} (own : List deeds.Deed) (h : Hand) (from : SinkFault → F) (Q : Outcome (Result B F)) (piece : List ℕ) (k : Unit {0} → Plan (Result B F)) → Comes own h (k tt) Q → Comes own h (lifted from (say piece) >>= k) Q
unfolding Comes say lifted bind ◌>>=◌
comes_say own h from Q piece k f = f
