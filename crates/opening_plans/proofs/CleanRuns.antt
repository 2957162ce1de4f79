-- What holds of a run beside what its plan answers: no step has failed, and its next name is one that it never made.
use Rattle.std.proofs.Common.{◌≡◌, ◌≢◌, inl, inr, ◌≤◌, ◌<◌, ◌+◌, ◌++◌, ◌^◌, ◌∷◌, [], ℕ, zero, suc, Bool, true, false, List, Result, Ok, Err, nat_lt, refl, sym, ◌∙◌, ap, subst, arith}
use Rattle.std.specs.Prelude.{codes, decimal, if◌then◌else◌, length}
use Rattle.std.specs.Str.Parse.{digits_value}
use Rattle.std.proofs.lemmas.Bool.Decides.{nat_tests}
use Rattle.std.proofs.lemmas.Fmt.{decimal_is_IsNumeral_wide}
use Rattle.std.proofs.lemmas.List.{append_cancel_left}
use Rattle.mh_base.specs.Entries.{IsKind, entry_text, kind_of}
use Rattle.mh_base.specs.Numbers.{hex}
use Rattle.mh_base.specs.declared.entry.Entry.TheVariants.{Temp}
use Rattle.mh_base.proofs.EntryKinds.{kind_is}
use Rattle.mh_profile.specs.declared.named_value.NamedValue.{NamedValue}
use Rattle.mh_profile.specs.Printing.{printed}
use Rattle.folder_files.specs.Careful.{WasMade}
use Rattle.folder_files.specs.Deeds.{Deed, HasFailed, did, now, on}
use Rattle.folder_files.specs.Named.{is_temp}
use Rattle.folder_files.specs.declared.place.Place.{Place}
use Rattle.folder_files.specs.declared.place.Place.TheVariants.{Mail}
use Rattle.folder_files.specs.declared.step.Answer.{Answer}
use Rattle.folder_files.specs.declared.step.Answer.TheVariants as answer
use Rattle.folder_files.specs.declared.step.Step.{Step}
use Rattle.folder_files.specs.declared.step.Step.TheVariants as step
use Rattle.file_plans.specs.Asking.{create, entered_of, folder_made_of, link, list, listing_of, lock, locking_of, make_folder, read, reading_of, rename, sync_file, sync_folder, touched_of, unlink}
use Rattle.file_plans.specs.Plan.{Ask, Hand, Hear, Note, Plan, Recall, Return, Say, Try, after, ask, bind, lifted, ◌>>=◌}
use Rattle.file_plans.specs.declared.answers.Entered.{Entered}
use Rattle.file_plans.specs.declared.answers.Entered.TheVariants as entered
use Rattle.file_plans.specs.declared.answers.FolderMade.{FolderMade}
use Rattle.file_plans.specs.declared.answers.Listing.{Listing}
use Rattle.file_plans.specs.declared.answers.Listing.TheVariants as listing
use Rattle.file_plans.specs.declared.answers.Locking.{Locking}
use Rattle.file_plans.specs.declared.answers.Locking.TheVariants as locking
use Rattle.file_plans.specs.declared.answers.Reading.{Reading}
use Rattle.file_plans.specs.declared.answers.Reading.TheVariants as reading
use Rattle.file_plans.specs.declared.answers.Touched.{Touched}
use Rattle.file_plans.specs.declared.answers.Touched.TheVariants as touched
use Rattle.file_plans.specs.declared.asking.Stop.{Stop}
use Rattle.step_plans.specs.ContextCommit.{LIMIT_BYTES, TRIES, changed, commit_by, commit_context, committed, context_name, context_read, context_replaced, entries_by, settled}
use Rattle.step_plans.specs.ContextPledge.{context_pledge}
use Rattle.step_plans.specs.Hands.{known, named, named_by, temp_name}
use Rattle.step_plans.specs.Locking.{clear_listed, cleared, cleared_one, let_go, lock_name, locked, locked_by, removed, temps_cleared}
use Rattle.step_plans.specs.Pledges.{MayAsk, Pledge}
use Rattle.step_plans.specs.PlanFaults.{Planned, of_stop}
use Rattle.step_plans.specs.Replacing.{created, entered_once, held_to, made_safe, renamed, replaced, synced, written}
use Rattle.step_plans.specs.declared.change.ChangeEntry.{ChangeEntry}
use Rattle.step_plans.specs.declared.fault.PlanFault.TheVariants as fault
use Rattle.step_plans.proofs.Coming.{Comes, NoneFailed, comes_more}
use Rattle.step_plans.proofs.Ending.{CommitEnds, commit_comes}
use Rattle.step_plans.proofs.Going.{Goes, Outcome, Sound, all_numbered, okay}
use Rattle.step_plans.proofs.Noted.{context_goes}
use Rattle.step_plans.proofs.Pledged.{Known, Of}
use Rattle.step_plans.proofs.Ruling.{AreNumbered, IsNumbered}
use Rattle.step_plans.proofs.Stepping.{on_new}

-- where no deed was answered Failed, none failed
pub unfailed_by : (own : List Deed) → NoneFailed own → HasFailed own → ⊥
unfailed_by (d ∷ own) clean (now e) = clean (inl e)
unfailed_by (d ∷ own) clean (on z) = unfailed_by own (λ m. clean (inr m)) z
unfailed_by [] clean z = elim z [ ]

-- a plan that comes in two ways comes in both
pub comes_both : {R : Type 0} (own : List Deed) (h : Hand) (p : Plan R) (P Q : Outcome R) → Comes own h p P → Comes own h p Q → Comes own h p (λ later j r. P later j r × Q later j r)
unfolding Comes
comes_both own h (Return r) P Q f g = (f, g)
comes_both own h (Ask s next) P Q f g = λ a row live. comes_both (did s a ∷ own) h (next a) P Q (f a row live) (g a row live)
comes_both own h (Try s next) P Q f g = absurd f
comes_both own h (Say piece next) P Q f g = comes_both own h next P Q f g
comes_both own h (Hear most next) P Q f g = λ piece short. comes_both own h (next piece) P Q (f piece short) (g piece short)
comes_both own h (Recall next) P Q f g = comes_both own h (next h) P Q f g
comes_both own h (Note j next) P Q f g = comes_both own j next P Q f g

-- one more name for a file, and then the rest
pub comes_link : {B F : Type 0} (own : List Deed) (h : Hand) (from : Stop → F) (Q : Outcome (Result B F)) (p : Place) (a b : List ℕ) (k : Entered → Plan (Result B F))
    → Comes (did (step.Link p a b) answer.Done ∷ own) h (k entered.Done) Q → Comes (did (step.Link p a b) answer.Exists ∷ own) h (k entered.Exists) Q → Comes (did (step.Link p a b) answer.Gone ∷ own) h (k entered.Gone) Q
    → Comes own h (lifted from (link p a b) >>= k) Q
unfolding Comes link ask lifted bind ◌>>=◌
comes_link own h from Q p x y k d e g = on_new (λ a. Comes (did (step.Link p x y) a ∷ own) h (k (entered_of a)) Q) d e g

-- no step has failed, and the hand has the number of no name that was made
pub record Clean (run : ℕ) (own : List Deed) (h : Hand) : Type 0 where
  pub numbered : AreNumbered run h.next own
  pub unfailed : HasFailed own → ⊥
  pub few : h.next ≤ 2 ^ 64

failed_more : (s : Step) (a : Answer) (own : List Deed) → a ≢ answer.Failed → (HasFailed own → ⊥) → HasFailed (did s a ∷ own) → ⊥
failed_more s a own live f (now e) = live e
failed_more s a own live f (on z) = f z

pub clean_more : (run : ℕ) (own : List Deed) (h : Hand) (s : Step) (a : Answer) → a ≢ answer.Failed → IsNumbered run h.next s → Clean run own h → Clean run (did s a ∷ own) h
clean_more run own h s a live n c = record { numbered = (n, c.numbered); unfailed = failed_more s a own live c.unfailed; few = c.few }

pub sound_more : (w : Pledge) (own : List Deed) (h : Hand) (s : Step) (a : Answer) → a ≢ answer.Failed → IsNumbered w.run h.next s → Sound w own h → Sound w (did s a ∷ own) h
sound_more w own h s a live n f = record { numbered = (n, f.numbered); unfailed = failed_more s a own live f.unfailed }

-- a plan that comes so and goes as pledged
pub comes_goes : {R : Type 0} (w : Pledge) (own : List Deed) (h : Hand) (p : Plan R) (O Q : Outcome R) → Sound w own h → Goes w own h p O → Comes own h p Q
    → Comes own h p (λ later j r. (Sound w later j × O later j r) × Q later j r)
unfolding Comes Goes
comes_goes w own h (Return r) O Q s g f = ((s, g), f)
comes_goes w own h (Ask t next) O Q s g f = λ a row live. comes_goes w (did t a ∷ own) h (next a) O Q (sound_more w own h t a live (g.0 s).1 s) (g.1 a row live) (f a row live)
comes_goes w own h (Try t next) O Q s g f = absurd f
comes_goes w own h (Say piece next) O Q s g f = comes_goes w own h next O Q s g.1 f
comes_goes w own h (Hear most next) O Q s g f = λ piece short. comes_goes w own h (next piece) O Q s (g piece short) (f piece short)
comes_goes w own h (Recall next) O Q s g f = comes_goes w own h (next h) O Q s (g s) f
comes_goes w own h (Note j next) O Q s g f = comes_goes w own j next O Q (record { numbered = all_numbered w.run h.next j.next own g.0 s.numbered; unfailed = s.unfailed }) g.1 f

-- one with a fact that each step keeps that the pledge lets be
pub comes_asked : {R : Type 0} (w : Pledge) (F : List Deed → Type 0) → ((own : List Deed) (s : Step) (a : Answer) → MayAsk w own s → F own → F (did s a ∷ own)) → (own : List Deed) (h : Hand) (p : Plan R) (O Q : Outcome R) → Sound w own h → Goes w own h p O → F own → Comes own h p Q
    → Comes own h p (λ later j r. F later × Q later j r)
unfolding Comes Goes
comes_asked w F keeps own h (Return r) O Q s g i f = (i, f)
comes_asked w F keeps own h (Ask t next) O Q s g i f = λ a row live. comes_asked w F keeps (did t a ∷ own) h (next a) O Q (sound_more w own h t a live (g.0 s).1 s) (g.1 a row live) (keeps own t a (g.0 s).0 i) (f a row live)
comes_asked w F keeps own h (Try t next) O Q s g i f = absurd f
comes_asked w F keeps own h (Say piece next) O Q s g i f = comes_asked w F keeps own h next O Q s g.1 i f
comes_asked w F keeps own h (Hear most next) O Q s g i f = λ piece short. comes_asked w F keeps own h (next piece) O Q s (g piece short) i (f piece short)
comes_asked w F keeps own h (Recall next) O Q s g i f = comes_asked w F keeps own h (next h) O Q s (g s) i f
comes_asked w F keeps own h (Note j next) O Q s g i f = comes_asked w F keeps own j next O Q (record { numbered = all_numbered w.run h.next j.next own g.0 s.numbered; unfailed = s.unfailed }) g.1 i f

-- the same of a part that goes as pledged
pub goes_asked : {R : Type 0} (w : Pledge) (F : List Deed → Type 0) → ((own : List Deed) (s : Step) (a : Answer) → MayAsk w own s → F own → F (did s a ∷ own)) → (own : List Deed) (h : Hand) (p : Plan R) (Q : Outcome R) → Sound w own h → F own → Goes w own h p Q
    → Goes w own h p (λ later j r. F later × Q later j r)
unfolding Goes
goes_asked w F keeps own h (Return r) Q s i g = (i, g)
goes_asked w F keeps own h (Ask t next) Q s i g = (g.0, λ a row live. goes_asked w F keeps (did t a ∷ own) h (next a) Q (sound_more w own h t a live (g.0 s).1 s) (keeps own t a (g.0 s).0 i) (g.1 a row live))
goes_asked w F keeps own h (Try t next) Q s i g = absurd g
goes_asked w F keeps own h (Say piece next) Q s i g = (g.0, goes_asked w F keeps own h next Q s i g.1)
goes_asked w F keeps own h (Hear most next) Q s i g = λ piece short. goes_asked w F keeps own h (next piece) Q s i (g piece short)
goes_asked w F keeps own h (Recall next) Q s i g = λ z. goes_asked w F keeps own h (next h) Q s i (g z)
goes_asked w F keeps own h (Note j next) Q s i g = (g.0, goes_asked w F keeps own j next Q (record { numbered = all_numbered w.run h.next j.next own g.0 s.numbered; unfailed = s.unfailed }) i g.1)

-- names of the run with other numbers are other names
other_number : (run n k : ℕ) → n ≤ 2 ^ 64 → k < n → k < 2 ^ 64 → temp_name run n ≡ temp_name run k → ⊥
unfolding entry_text
other_number run n k few lt small e =
    let tails : 95 ∷ decimal n ≡ 95 ∷ decimal k = append_cancel_left (hex 32 run) (95 ∷ decimal n) (95 ∷ decimal k) (append_cancel_left (codes ".mh_temp_") (hex 32 run ++ 95 ∷ decimal n) (hex 32 run ++ 95 ∷ decimal k) e) in
    let same : decimal n ≡ decimal k = cc (tails) in
    let number : n ≡ k = sym (decimal_is_IsNumeral_wide n (omega (arith, few))).1 ∙ (ap (digits_value 10) same ∙ (decimal_is_IsNumeral_wide k (omega (arith, small))).1) in
    omega (arith, lt, number)

not_its_kind : (run n k : ℕ) → n ≤ 2 ^ 64 → kind_of (temp_name run n) ≡ Temp run k → k < n → ⊥
not_its_kind run n k few e lt = let is = subst (λ z. IsKind (temp_name run n) z) e (kind_is (temp_name run n)) in other_number run n k few lt is.0.1 is.1

-- the hand's next name was never made
pub never_made : (run n : ℕ) (p : Place) (own : List Deed) → n ≤ 2 ^ 64 → AreNumbered run n own → WasMade p (temp_name run n) own → ⊥
never_made run n p [] few f w = elim w [ ]
never_made run n p (d ∷ own) few f (now w) = let k = subst (λ s. IsNumbered run n s) (ap (λ x. x.step) w.1) f.0 in not_its_kind run n k.0 few k.1 k.2
never_made run n p (d ∷ own) few f (on z) = never_made run n p own few f.1 z

-- whatever is answered, the hand's number is one of those that there are, or the first after them
unfoldable pub Bounded : {R : Type 0} → Hand → Plan R → Type 0
Bounded h (Return r) = h.next ≤ 2 ^ 64
Bounded h (Ask s next) = (a : Answer) → Bounded h (next a)
Bounded h (Try s next) = (a : Answer) → Bounded h (next a)
Bounded h (Say piece next) = Bounded h next
Bounded h (Hear most next) = (piece : List ℕ) → Bounded h (next piece)
Bounded h (Recall next) = Bounded h (next h)
Bounded h (Note j next) = Bounded j next

bounded_bind : {A B : Type 0} (h : Hand) (p : Plan A) (k : A → Plan B) → Bounded h p → ((j : Hand) (a : A) → j.next ≤ 2 ^ 64 → Bounded j (k a)) → Bounded h (bind p k)
unfolding Bounded bind
bounded_bind h (Return r) k f g = g h r f
bounded_bind h (Ask s next) k f g = λ a. bounded_bind h (next a) k (f a) g
bounded_bind h (Try s next) k f g = λ a. bounded_bind h (next a) k (f a) g
bounded_bind h (Say piece next) k f g = bounded_bind h next k f g
bounded_bind h (Hear most next) k f g = λ piece. bounded_bind h (next piece) k (f piece) g
bounded_bind h (Recall next) k f g = bounded_bind h (next h) k f g
bounded_bind h (Note j next) k f g = bounded_bind j next k f g

bounded_end : {R : Type 0} (h : Hand) (r : R) → h.next ≤ 2 ^ 64 → Bounded h (Return r)
unfolding Bounded
bounded_end h r f = f

bounded_then : {A B E : Type 0} (h : Hand) (p : Plan (Result A E)) (k : A → Plan (Result B E)) → Bounded h p → ((j : Hand) (a : A) → j.next ≤ 2 ^ 64 → Bounded j (k a)) → Bounded h (p >>= k)
unfolding ◌>>=◌
bounded_then h p k f g = bounded_bind h p (after k) f go
  where
    go : (j : Hand) (r : Result _ _) → j.next ≤ 2 ^ 64 → Bounded j (after k r)
    go j (Ok a) few = g j a few
    go j (Err e) few = bounded_end j (Err e) few

pub comes_bounded : {R : Type 0} (own : List Deed) (h : Hand) (p : Plan R) (Q : Outcome R) → Bounded h p → Comes own h p Q → Comes own h p (λ later j r. (j.next ≤ 2 ^ 64) × Q later j r)
unfolding Comes Bounded
comes_bounded own h (Return r) Q b f = (b, f)
comes_bounded own h (Ask s next) Q b f = λ a row live. comes_bounded (did s a ∷ own) h (next a) Q (b a) (f a row live)
comes_bounded own h (Try s next) Q b f = absurd f
comes_bounded own h (Say piece next) Q b f = comes_bounded own h next Q b f
comes_bounded own h (Hear most next) Q b f = λ piece short. comes_bounded own h (next piece) Q (b piece) (f piece short)
comes_bounded own h (Recall next) Q b f = comes_bounded own h (next h) Q b f
comes_bounded own h (Note j next) Q b f = comes_bounded own j next Q b f

module _ {B : Type 0} (h : Hand) where
  bounded_make : (p : Place) (k : FolderMade → Planned B) → ((m : FolderMade) → Bounded h (k m)) → Bounded h (lifted of_stop (make_folder p) >>= k)
  unfolding Bounded make_folder ask lifted bind ◌>>=◌
  bounded_make p k f = λ a. f (folder_made_of a)

  bounded_lock : (p : Place) (k : Locking → Planned B) → ((m : Locking) → Bounded h (k m)) → Bounded h (lifted of_stop (lock p) >>= k)
  unfolding Bounded lock ask lifted bind ◌>>=◌
  bounded_lock p k f = λ a. f (locking_of a)

  bounded_list : (p : Place) (k : Listing → Planned B) → ((m : Listing) → Bounded h (k m)) → Bounded h (lifted of_stop (list p) >>= k)
  unfolding Bounded list ask lifted bind ◌>>=◌
  bounded_list p k f = λ a. f (listing_of a)

  bounded_read : (p : Place) (n : List ℕ) (limit : ℕ) (k : Reading → Planned B) → ((m : Reading) → Bounded h (k m)) → Bounded h (lifted of_stop (read p n limit) >>= k)
  unfolding Bounded read ask lifted bind ◌>>=◌
  bounded_read p n limit k f = λ a. f (reading_of a)

  bounded_create : (p : Place) (n b : List ℕ) (k : Entered → Planned B) → ((m : Entered) → Bounded h (k m)) → Bounded h (lifted of_stop (create p n b) >>= k)
  unfolding Bounded create ask lifted bind ◌>>=◌
  bounded_create p n b k f = λ a. f (entered_of a)

  bounded_sync_file : (p : Place) (n : List ℕ) (k : Touched → Planned B) → ((m : Touched) → Bounded h (k m)) → Bounded h (lifted of_stop (sync_file p n) >>= k)
  unfolding Bounded sync_file ask lifted bind ◌>>=◌
  bounded_sync_file p n k f = λ a. f (touched_of a)

  bounded_sync_folder : (p : Place) (k : Touched → Planned B) → ((m : Touched) → Bounded h (k m)) → Bounded h (lifted of_stop (sync_folder p) >>= k)
  unfolding Bounded sync_folder ask lifted bind ◌>>=◌
  bounded_sync_folder p k f = λ a. f (touched_of a)

  bounded_rename : (p : Place) (n m : List ℕ) (k : Touched → Planned B) → ((m : Touched) → Bounded h (k m)) → Bounded h (lifted of_stop (rename p n m) >>= k)
  unfolding Bounded rename ask lifted bind ◌>>=◌
  bounded_rename p n m k f = λ a. f (touched_of a)

  bounded_unlink : (p : Place) (n : List ℕ) (k : Touched → Planned B) → ((m : Touched) → Bounded h (k m)) → Bounded h (lifted of_stop (unlink p n) >>= k)
  unfolding Bounded unlink ask lifted bind ◌>>=◌
  bounded_unlink p n k f = λ a. f (touched_of a)

  bounded_unlock : (p : Place) (k : Answer → Planned B) → ((m : Answer) → Bounded h (k m)) → Bounded h (lifted of_stop (ask (step.Unlock p)) >>= k)
  unfolding Bounded ask lifted bind ◌>>=◌
  bounded_unlock p k f = λ a. f a

module _ (run : ℕ) (p : Place) where
  bounded_held : (h : Hand) (n : List ℕ) → h.next ≤ 2 ^ 64 → (t : Touched) → Bounded h (held_to p n t)
  bounded_held h n few touched.Done = bounded_end h (Ok tt) few
  bounded_held h n few touched.Gone = bounded_end h (Err (fault.Meddled p n)) few

  bounded_entered : (h : Hand) (n : List ℕ) → h.next ≤ 2 ^ 64 → (t : Entered) → Bounded h (entered_once p n t)
  bounded_entered h n few entered.Done = bounded_end h (Ok tt) few
  bounded_entered h n few entered.Exists = bounded_end h (Err (fault.Meddled p n)) few
  bounded_entered h n few entered.Gone = bounded_end h (Err (fault.Meddled p n)) few

  bounded_tried : (h : Hand) (again : Planned Unit) → h.next ≤ 2 ^ 64 → Bounded h again → (l : Locking) → Bounded h (locked_by p l again)
  bounded_tried h again few f locking.Done = bounded_end h (Ok tt) few
  bounded_tried h again few f locking.Busy = f
  bounded_tried h again few f locking.Gone = bounded_end h (Err (fault.Meddled p lock_name)) few

  bounded_locked : (h : Hand) (n : ℕ) → h.next ≤ 2 ^ 64 → Bounded h (locked p n)
  unfolding locked
  bounded_locked h zero few = bounded_end h (Err (fault.Locked p)) few
  bounded_locked h (suc n) few = bounded_lock h p (λ l. locked_by p l (locked p n)) (bounded_tried h (locked p n) few (bounded_locked h n few))

  bounded_cleared : (h : Hand) (ns : List (List ℕ)) → h.next ≤ 2 ^ 64 → Bounded h (cleared p ns)
  unfolding cleared cleared_one removed
  bounded_cleared h [] few = bounded_end h (Ok tt) few
  bounded_cleared h (n ∷ ns) few = bounded_then h (cleared_one p n) (λ u. cleared p ns) (go (is_temp (kind_of n))) (λ j u le. bounded_cleared j ns le)
    where
      go : (b : Bool) → Bounded h (if b then removed p n else Return (Ok tt))
      go true = bounded_unlink h p n (held_to p n) (bounded_held h n few)
      go false = bounded_end h (Ok tt) few

  bounded_temps : (h : Hand) → h.next ≤ 2 ^ 64 → Bounded h (temps_cleared p)
  unfolding temps_cleared
  bounded_temps h few = bounded_list h p (clear_listed p) go
    where
      go : (l : Listing) → Bounded h (clear_listed p l)
      go (listing.Names names) = bounded_cleared h names few
      go listing.Gone = bounded_end h (Err (fault.Meddled p lock_name)) few

  bounded_context : (h : Hand) → h.next ≤ 2 ^ 64 → Bounded h (context_read p)
  unfolding context_read
  bounded_context h few = bounded_read h p context_name LIMIT_BYTES entries_by go
    where
      go : (r : Reading) → Bounded h (entries_by r)
      go (reading.Content bytes) = bounded_end h (Ok _) few
      go (reading.Long l) = bounded_end h (Err (fault.TooLarge l)) few
      go reading.Gone = bounded_end h (Ok []) few

  one_more : (n : ℕ) → nat_lt n (2 ^ 64) ≡ true → n + 1 ≤ 2 ^ 64
  one_more n e = grind (arith, nat_tests, e)

  bounded_named : (h : Hand) → h.next ≤ 2 ^ 64 → Bounded h (named run)
  unfolding Bounded named
  bounded_named h few = go (nat_lt h.next (2 ^ 64)) refl
    where
      go : (b : Bool) → nat_lt h.next (2 ^ 64) ≡ b → Bounded h (named_by run h b)
      go true e = one_more h.next e
      go false e = few

  bounded_replaced : (h : Hand) (name bytes : List ℕ) → h.next ≤ 2 ^ 64 → Bounded h (replaced run p name bytes)
  unfolding replaced written created made_safe renamed synced
  bounded_replaced h name bytes few =
      bounded_then h (written run p bytes) (λ temp. renamed p temp name >>= (λ moved. synced p name))
      (bounded_then h (named run) (λ temp. created p temp bytes >>= (λ made. made_safe p temp >>= (λ safe. Return (Ok temp)))) (bounded_named h few)
      (λ j temp le.
      bounded_then j (created p temp bytes) (λ made. made_safe p temp >>= (λ safe. Return (Ok temp))) (bounded_create j p temp bytes (entered_once p temp) (bounded_entered j temp le))
      (λ i u lo.
      bounded_then i (made_safe p temp) (λ safe. Return (Ok temp)) (bounded_sync_file i p temp (held_to p temp) (bounded_held i temp lo)) (λ l v li. bounded_end l (Ok temp) li))))
      (λ j temp le.
      bounded_then j (renamed p temp name) (λ moved. synced p name) (bounded_rename j p temp name (held_to p temp) (bounded_held j temp le))
      (λ i u lo. bounded_sync_folder i p (held_to p name) (bounded_held i name lo)))

  bounded_text : (h : Hand) (text : List ℕ) → h.next ≤ 2 ^ 64 → Bounded h (context_replaced run p text)
  unfolding context_replaced
  bounded_text h text few = go (nat_lt LIMIT_BYTES (length text))
    where
      go : (b : Bool) → Bounded h (if b then Return (Err (fault.TooLarge (length text))) else replaced run p context_name text)
      go true = bounded_end h (Err (fault.TooLarge (length text))) few
      go false = bounded_replaced h context_name text few

  bounded_known : (h : Hand) (es : List NamedValue) → h.next ≤ 2 ^ 64 → Bounded h (known es)
  unfolding Bounded known
  bounded_known h es few = few

  bounded_let_go : (h : Hand) → h.next ≤ 2 ^ 64 → Bounded h (let_go p)
  unfolding let_go
  bounded_let_go h few = bounded_unlock h p (λ a. Return (Ok tt)) (λ a. bounded_end h (Ok tt) few)

  bounded_committed : (h : Hand) (cs : List ChangeEntry) → h.next ≤ 2 ^ 64 → Bounded h (committed run p cs)
  unfolding committed
  bounded_committed h cs few =
      bounded_make h p _ (λ m.
      bounded_then h (locked p TRIES) _ (bounded_locked h TRIES few) (λ i u lo.
      bounded_then i (temps_cleared p) _ (bounded_temps i lo) (λ j v le.
      bounded_then j (context_read p) _ (bounded_context j le) (λ k es la.
      bounded_then k (context_replaced run p (printed (changed cs es))) _ (bounded_text k (printed (changed cs es)) la) (λ l x li.
      bounded_then l (let_go p) _ (bounded_let_go l li) (λ last y lu. bounded_known last (changed cs es) lu))))))

  bounded_commit : (h : Hand) (cs : List ChangeEntry) → h.next ≤ 2 ^ 64 → Bounded h (commit_context run p cs)
  unfolding Bounded commit_context
  bounded_commit h cs few = go (settled cs h.context)
    where
      go : (b : Bool) → Bounded h (commit_by run p cs b)
      go true = few
      go false = bounded_committed h cs few

-- a commit of the context: what shows its end; and the run is clean after it
module _ (run : ℕ) (few : run < 2 ^ 128) (path : List ℕ) (cs : List ChangeEntry) where
  abbrev plan : Planned Unit
  plan = commit_context run (Mail path) cs

  abbrev w : Pledge
  w = context_pledge run path cs

  pub commit_clean : (own : List Deed) (h : Hand) → Clean run own h → Comes own h plan (λ later j r. Clean run later j × CommitEnds run (Mail path) cs h later j r)
  commit_clean own h c =
      comes_more own h plan (λ later j r. (Sound w later j × okay (Of (Known w own (Mail path) cs h)) later j r) × ((j.next ≤ 2 ^ 64) × CommitEnds run (Mail path) cs h later j r)) (λ later j r. Clean run later j × CommitEnds run (Mail path) cs h later j r)
      (λ later j r q. (record { numbered = q.0.0.numbered; unfailed = q.0.0.unfailed; few = q.1.0 }, q.1.1))
      (comes_goes w own h plan (okay (Of (Known w own (Mail path) cs h))) (λ later j r. (j.next ≤ 2 ^ 64) × CommitEnds run (Mail path) cs h later j r)
      (record { numbered = c.numbered; unfailed = c.unfailed }) (context_goes run few path cs own h)
      (comes_bounded own h plan (CommitEnds run (Mail path) cs h) (bounded_commit run (Mail path) h cs c.few) (commit_comes run (Mail path) cs h own (never_made run h.next (Mail path) own c.few c.numbered))))
