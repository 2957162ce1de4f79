-- A commit of the context goes as its command pledges.
use Rattle.std.proofs.Common.{◌≡◌, ◌⊎◌, inl, inr, ◌<◌, ◌^◌, ◌∷◌, [], ℕ, zero, suc, Bool, true, false, List, Ok, Err, refl, sym, subst, arith, nat_lt, length}
use Rattle.std.specs.Prelude.{if◌then◌else◌}
use Rattle.mh_base.specs.Entries.{kind_of}
use Rattle.mh_profile.specs.declared.named_value.NamedValue.{NamedValue}
use Rattle.mh_profile.specs.Printing.{printed}
use Rattle.mh_profile.specs.Reading.{entries_in}
use Rattle.folder_files.specs.Careful.{Commits as OfCommits, Clears, Makes, commits, clears, makes, HasLock}
use Rattle.folder_files.specs.Deeds.{Deed, did, Once, now, on, last, still}
use Rattle.folder_files.specs.Histories.{IsLockable}
use Rattle.folder_files.specs.Named.{is_temp, is_temp_of, is_committed}
use Rattle.folder_files.specs.declared.place.Place.{Place}
use Rattle.folder_files.specs.declared.place.Place.TheVariants.{Mail}
use Rattle.folder_files.specs.declared.step.Step.{Step}
use Rattle.folder_files.specs.declared.step.Step.TheVariants as step
use Rattle.folder_files.specs.declared.step.Answer.{Answer}
use Rattle.folder_files.specs.declared.step.Answer.TheVariants as answer
use Rattle.folder_files.proofs.Names.{bytes_self}
use Rattle.file_plans.specs.Asking.{lock}
use Rattle.file_plans.specs.Plan.{Hand, Return, ◌>>=◌}
use Rattle.file_plans.specs.StaysCareful.{careful}
use Rattle.step_plans.specs.declared.change.ChangeEntry.{ChangeEntry}
use Rattle.step_plans.specs.declared.fault.PlanFault.TheVariants as fault
use Rattle.step_plans.specs.ContextPledge.{text_by}
use Rattle.step_plans.specs.Commits.{IsBase, found, missing, committed as committed_now}
use Rattle.step_plans.specs.PlanFaults.{of_stop, Planned}
use Rattle.step_plans.specs.ContextCommit.{context_name, LIMIT_BYTES, TRIES, changed, settled, entries_by, context_read, context_replaced, committed, commit_by, commit_context}
use Rattle.step_plans.specs.Hands.{known}
use Rattle.step_plans.specs.Locking.{locked_by, locked, let_go, removed, cleared_one, cleared, clear_listed, temps_cleared, lock_name}
use Rattle.step_plans.specs.Pledges.{Pledge, IsMarked}
use Rattle.step_plans.specs.Replacing.{held_to, written, synced, renamed, replaced}
use Rattle.step_plans.specs.Settled.{AreSettled}
use Rattle.step_plans.proofs.Asks.{Commits, asks_locked, asks_temps_cleared}
use Rattle.step_plans.proofs.Committed.{no_entries}
use Rattle.step_plans.proofs.Facts.{base_kept, base_known, commit_settled, settled_kept}
use Rattle.step_plans.proofs.Going.{Outcome, okay, Goes, goes_then, goes_more, okay_more}
use Rattle.step_plans.proofs.Lasting.{KeptBy, goes_keeping}
use Rattle.step_plans.proofs.Stepping.{goes_rename, goes_unlink, goes_make, goes_sync_folder, goes_list, goes_read, goes_lock, goes_unlock, goes_on, goes_stop, goes_end, goes_return}
use Rattle.step_plans.proofs.Written.{Serves, Adds, lock_held, locked_there, goes_at, Written, written_goes}

-- the run committed the name, as the command makes it of its base
abbrev pub HasMarked : Pledge → Place → List ℕ → List Deed → Type 0
HasMarked w p name own = Once (λ d older. (temp : List ℕ) × (d ≡ did (step.Rename p temp name) answer.Done) × IsMarked w p temp name older) own

-- a part whose outcome is that of the deeds alone
abbrev pub Of : (List Deed → Type 0) → Outcome Unit
Of F later j u = F later

module _ (w : Pledge) where
  pub synced_goes : (own : List Deed) (h : Hand) (p : Place) (n : List ℕ) → Goes w own h (synced p n) (okay (Adds own (did (step.SyncFolder p) answer.Done)))
  unfolding synced
  synced_goes own h p n =
      goes_sync_folder w own h of_stop (okay (Adds own (did (step.SyncFolder p) answer.Done))) p (held_to p n)
      (goes_return w _ h tt (okay (Adds own (did (step.SyncFolder p) answer.Done))) refl)
      (goes_end w _ h (fault.Meddled p n) (Adds own (did (step.SyncFolder p) answer.Done)))

  pub let_go_goes : (own : List Deed) (h : Hand) (p : Place) → Goes w own h (let_go p) (okay (Adds own (did (step.Unlock p) answer.Done)))
  unfolding let_go
  let_go_goes own h p = goes_unlock w own h of_stop (okay (Adds own (did (step.Unlock p) answer.Done))) p _ (goes_return w _ h tt (okay (Adds own (did (step.Unlock p) answer.Done))) refl)

-- what is settled stays so, and the lock is had
pub record Held (own : List Deed) (p : Place) (later : List Deed) : Type 0 where
  pub settled : AreSettled own → AreSettled later
  pub lock : HasLock p later

held_on : (own : List Deed) (p : Place) (d : Deed) (later : List Deed) → (AreSettled own → AreSettled (d ∷ own)) → Held (d ∷ own) p later → Held own p later
held_on own p d later f c = record { settled = λ s. c.settled (f s); lock = c.lock }

module _ (w : Pledge) (p : Place) (lets : Serves w p) where
  held_more : (own : List Deed) (h : Hand) (d : Deed) (q : Planned Unit) → (AreSettled own → AreSettled (d ∷ own)) → Goes w (d ∷ own) h q (okay (Of (Held (d ∷ own) p))) → Goes w (d ∷ own) h q (okay (Of (Held own p)))
  held_more own h d q f g = goes_more w (d ∷ own) h q (okay (Of (Held (d ∷ own) p))) (okay (Of (Held own p))) (okay_more (Of (Held (d ∷ own) p)) (Of (Held own p)) (λ later j u c. held_on own p d later f c)) g

  pub locked_goes : (own : List Deed) (h : Hand) (tries : ℕ) → Goes w own h (locked p tries) (okay (Of (Held own p)))
  unfolding locked
  locked_goes own h zero = goes_end w own h (fault.Locked p) (Of (Held own p))
  locked_goes own h (suc n) =
      goes_lock w own h of_stop (okay (Of (Held own p))) p (λ l. locked_by p l (locked p n))
      (goes_return w _ h tt (okay (Of (Held own p))) (record { settled = λ f. settled_kept own (step.Lock p) answer.Done tt f; lock = last refl }))
      (held_more own h (did (step.Lock p) answer.Busy) (locked p n) (λ f. settled_kept own (step.Lock p) answer.Busy tt f) (locked_goes (did (step.Lock p) answer.Busy ∷ own) h n))
      (goes_end w _ h (fault.Meddled p lock_name) (Of (Held own p)))

  pub removed_goes : (own : List Deed) (h : Hand) (n : List ℕ) → is_temp (kind_of n) ≡ true → (IsLockable p → HasLock p own) → Goes w own h (removed p n) (okay (Adds own (did (step.Unlink p n) answer.Done)))
  unfolding removed
  removed_goes own h n is lock =
      goes_unlink w own h of_stop (okay (Adds own (did (step.Unlink p n) answer.Done))) p n (held_to p n)
      (λ s. (record { is_own = careful s.unfailed Clears (clears p n is) (lets.serves own Clears (step.Unlink p n) refl refl) (locked_there p own lock); marks = tt; steps = λ no. lets.clear own n is }, tt))
      (goes_return w _ h tt (okay (Adds own (did (step.Unlink p n) answer.Done))) refl)
      (goes_end w _ h (fault.Meddled p n) (Adds own (did (step.Unlink p n) answer.Done)))

  pub cleared_goes : (own : List Deed) (h : Hand) (ns : List (List ℕ)) → HasLock p own → Goes w own h (cleared p ns) (okay (Of (Held own p)))
  unfolding cleared cleared_one
  cleared_goes own h [] lock = goes_return w own h tt (okay (Of (Held own p))) (record { settled = λ f. f; lock = lock })
  cleared_goes own h (n ∷ ns) lock = go (is_temp (kind_of n)) refl (λ j. cleared_goes (did (step.Unlink p n) answer.Done ∷ own) j ns (still (λ e. cc (e)) lock)) (cleared_goes own h ns lock)
    where
      go : (b : Bool) → is_temp (kind_of n) ≡ b → ((j : Hand) → Goes w (did (step.Unlink p n) answer.Done ∷ own) j (cleared p ns) (okay (Of (Held (did (step.Unlink p n) answer.Done ∷ own) p))))
          → Goes w own h (cleared p ns) (okay (Of (Held own p))) → Goes w own h ((if b then removed p n else Return (Ok tt)) >>= (λ u. cleared p ns)) (okay (Of (Held own p)))
      go true e rest same =
          goes_then w own h (removed p n) (λ u. cleared p ns) (Adds own (did (step.Unlink p n) answer.Done)) (Of (Held own p)) (removed_goes own h n e (λ l. lock))
          (λ later j u q. goes_at w later _ j (cleared p ns) (okay (Of (Held own p))) q
          (held_more own j (did (step.Unlink p n) answer.Done) (cleared p ns) (λ f. settled_kept own (step.Unlink p n) answer.Done tt f) (rest j)))
      go false e rest same = goes_on w own h tt (λ u. cleared p ns) (okay (Of (Held own p))) same

  pub temps_cleared_goes : (own : List Deed) (h : Hand) → HasLock p own → Goes w own h (temps_cleared p) (okay (Of (Held own p)))
  unfolding temps_cleared
  temps_cleared_goes own h lock =
      goes_list w own h of_stop (okay (Of (Held own p))) p (clear_listed p)
      (λ ns. held_more own h (did (step.List p) (answer.Names ns)) (cleared p ns) (λ f. settled_kept own (step.List p) (answer.Names ns) tt f) (cleared_goes (did (step.List p) (answer.Names ns) ∷ own) h ns (still (λ e. cc (e)) lock)))
      (goes_end w _ h (fault.Meddled p lock_name) (Of (Held own p)))

-- the name was committed as the command makes it, and made safe: what was settled stays so, the lock is had, and the new text is the base
pub record Changed (w : Pledge) (own : List Deed) (p : Place) (name new : List ℕ) (later : List Deed) : Type 0 where
  pub marked : HasMarked w p name later
  pub settled : AreSettled own → AreSettled later
  pub lock : HasLock p later
  pub base : IsBase w.run p name new later

-- the deeds of a file that was written
abbrev pub after_written : Place → List ℕ → List ℕ → List Deed → List Deed
after_written p temp new own = did (step.SyncFile p temp) answer.Done ∷ (did (step.Create p temp new) answer.Done ∷ own)

module _ (w : Pledge) (few : w.run < 2 ^ 128) (p : Place) (lets : Serves w p) where
  -- a new text takes the name's place, where its base is known and the pledge has it so after the deeds of the file
  pub replaced_goes : (own : List Deed) (h : Hand) (name old new : List ℕ) → is_committed p name ≡ true → HasLock p own → IsBase w.run p name old own
      → ((temp : List ℕ) → w.may_mark (after_written p temp new own) p name old new) → ((temp : List ℕ) → IsMarked w p temp name (after_written p temp new own) → w.may_step (after_written p temp new own) (step.Rename p temp name))
      → Goes w own h (replaced w.run p name new) (okay (Of (Changed w own p name new)))
  unfolding replaced renamed
  replaced_goes own h name old new is lock base may step_ =
      goes_then w own h (written w.run p new) _ (Written w few p lets own new) (Of (Changed w own p name new)) (written_goes w few p lets own h new (λ l. lock))
      (λ later j temp q. goes_at w later (after_written p temp new own) j _ (okay (Of (Changed w own p name new))) q.0 (moves temp j q.1))
    where
      marked_at : (temp : List ℕ) → IsMarked w p temp name (after_written p temp new own)
      marked_at temp = record {
        old = old;
        new = new;
        is_base = base_kept w.run p name old (did (step.Create p temp new) answer.Done ∷ own) (step.SyncFile p temp) answer.Done tt (base_kept w.run p name old own (step.Create p temp new) answer.Done tt base);
        created = on (now refl);
        made = may temp;
      }

      changed_at : (temp : List ℕ) → is_temp_of w.run (kind_of temp) ≡ true → Changed w own p name new (did (step.SyncFolder p) answer.Done ∷ (did (step.Rename p temp name) answer.Done ∷ after_written p temp new own))
      changed_at temp own_ = record {
        marked = on (now (temp, refl, marked_at temp));
        settled = λ f. commit_settled p temp name _ (settled_kept _ (step.SyncFile p temp) answer.Done tt (settled_kept own (step.Create p temp new) answer.Done tt f));
        lock = still (λ e. cc (e)) (still (λ e. cc (e)) (still (λ e. cc (e)) (still (λ e. cc (e)) lock)));
        base = base_kept w.run p name new _ (step.SyncFolder p) answer.Done tt (committed_now refl own_ (on (now refl)) (still (λ e. cc (e)) (still (λ e. cc (e)) lock)));
      }

      end_ : (temp : List ℕ) (j : Hand) → is_temp_of w.run (kind_of temp) ≡ true → Goes w (did (step.Rename p temp name) answer.Done ∷ after_written p temp new own) j (synced p name) (okay (Of (Changed w own p name new)))
      end_ temp j own_ =
          goes_more w _ j (synced p name) (okay (Adds (did (step.Rename p temp name) answer.Done ∷ after_written p temp new own) (did (step.SyncFolder p) answer.Done))) (okay (Of (Changed w own p name new)))
          (okay_more (Adds (did (step.Rename p temp name) answer.Done ∷ after_written p temp new own) (did (step.SyncFolder p) answer.Done)) (Of (Changed w own p name new)) (λ last i u e. subst (λ z. Changed w own p name new z) (sym e) (changed_at temp own_)))
          (synced_goes w (did (step.Rename p temp name) answer.Done ∷ after_written p temp new own) j p name)

      -- the rename by itself
      rename_goes : (temp : List ℕ) (j : Hand) → is_temp_of w.run (kind_of temp) ≡ true → Goes w (after_written p temp new own) j (renamed p temp name) (okay (Adds (after_written p temp new own) (did (step.Rename p temp name) answer.Done)))
      rename_goes temp j own_ =
          goes_rename w (after_written p temp new own) j of_stop (okay (Adds (after_written p temp new own) (did (step.Rename p temp name) answer.Done))) p temp name (held_to p temp)
          (λ s. (
            record {
              is_own = careful s.unfailed OfCommits (commits p temp name (is, (own_, now (refl, now (new, refl))), base_known w.run p name old (after_written p temp new own) (marked_at temp).is_base))
                  (lets.serves (after_written p temp new own) OfCommits (step.Rename p temp name) refl refl) (lock_held p (after_written p temp new own) (still (λ e. cc (e)) (still (λ e. cc (e)) lock)));
              marks = λ e. marked_at temp;
              steps = λ no. step_ temp (marked_at temp);
            },
            tt,
          ))
          (goes_return w _ j tt (okay (Adds (after_written p temp new own) (did (step.Rename p temp name) answer.Done))) refl)
          (goes_end w _ j (fault.Meddled p temp) (Adds (after_written p temp new own) (did (step.Rename p temp name) answer.Done)))

      moves : (temp : List ℕ) (j : Hand) → is_temp_of w.run (kind_of temp) ≡ true → Goes w (after_written p temp new own) j (renamed p temp name >>= (λ u. synced p name)) (okay (Of (Changed w own p name new)))
      moves temp j own_ =
          goes_then w (after_written p temp new own) j (renamed p temp name) (λ u. synced p name) (Adds (after_written p temp new own) (did (step.Rename p temp name) answer.Done)) (Of (Changed w own p name new)) (rename_goes temp j own_)
          (λ later i u e. goes_at w later _ i (synced p name) (okay (Of (Changed w own p name new))) e (end_ temp i own_))

-- a commit of the context is pledged: while a fact of the deeds holds, which its steps keep, the command may replace
-- the text by what the changes make of it
pub record IsPledged (w : Pledge) (p : Place) (cs : List ChangeEntry) (P : Step → Type 0) (F : List Deed → Type 0) : Type 0 where
  pub asks : Commits P p context_name
  pub keeps : KeptBy P F
  pub may : (later : List Deed) (old : List ℕ) → F later → w.may_mark later p context_name old (text_by cs old)
  pub lets : (later : List Deed) (temp : List ℕ) → F later → HasLock p later → IsMarked w p temp context_name later → w.may_step later (step.Rename p temp context_name)

-- after a commit of the context: all is settled that was, and the context was committed or nothing was done, where the
-- hand said so already
pub record Known (w : Pledge) (own : List Deed) (p : Place) (cs : List ChangeEntry) (h : Hand) (later : List Deed) : Type 0 where
  pub settled_still : AreSettled own → AreSettled later
  pub done : ((settled cs h.context ≡ true) × (later ≡ own)) ⊎ HasMarked w p context_name later

module _ (w : Pledge) (few : w.run < 2 ^ 128) (path : List ℕ) (lets : Serves w (Mail path)) (cs : List ChangeEntry) (P : Step → Type 0) (F : List Deed → Type 0) (pledged : IsPledged w (Mail path) cs P F) (own : List Deed) (h : Hand) where
  abbrev p : Place
  p = Mail path

  abbrev Ends : Outcome Unit
  Ends = Of (Known w own p cs h)

  is : is_committed p context_name ≡ true
  is = bytes_self context_name

  known_goes : (later : List Deed) (j : Hand) (es : List NamedValue) → Known w own p cs h later → Goes w later j (known es) (okay Ends)
  unfolding Goes known
  known_goes later j es k = λ s. (omega arith, k)

  closing : (made later : List Deed) (j : Hand) (es : List NamedValue) (text : List ℕ) → (AreSettled own → AreSettled later) → Changed w later p context_name text made → Goes w made j (let_go p >>= (λ free. known es)) (okay Ends)
  closing made later j es text f c =
      goes_then w made j (let_go p) (λ free. known es) (Adds made (did (step.Unlock p) answer.Done)) Ends (let_go_goes w made j p)
      (λ last i u e. goes_at w last (did (step.Unlock p) answer.Done ∷ made) i (known es) (okay Ends) e
      (known_goes _ i es (record { settled_still = λ s. settled_kept made (step.Unlock p) answer.Done tt (c.settled (f s)); done = inr (on c.marked) })))

  -- what was read under the lock is written anew
  writing : (later : List Deed) (j : Hand) (a : Answer) (old : List ℕ) (es : List NamedValue) → es ≡ entries_in old → HasLock p later → F later → (AreSettled own → AreSettled later) → IsBase w.run p context_name old (did (step.Read p context_name LIMIT_BYTES) a ∷ later)
      → Goes w (did (step.Read p context_name LIMIT_BYTES) a ∷ later) j (context_replaced w.run p (printed (changed cs es)) >>= (λ new. let_go p >>= (λ free. known (changed cs es)))) (okay Ends)
  unfolding context_replaced
  writing later j a old es same lock f settled_ base = go (nat_lt LIMIT_BYTES (length (printed (changed cs es))))
    where
      read_ : List Deed
      read_ = did (step.Read p context_name LIMIT_BYTES) a ∷ later

      text : List ℕ
      text = printed (changed cs es)

      facts : F read_
      facts = pledged.keeps later (step.Read p context_name LIMIT_BYTES) a pledged.asks.read f

      written_facts : (temp : List ℕ) → F (after_written p temp text read_)
      written_facts temp = pledged.keeps (did (step.Create p temp text) answer.Done ∷ read_) (step.SyncFile p temp) answer.Done (pledged.asks.sync_file temp) (pledged.keeps read_ (step.Create p temp text) answer.Done (pledged.asks.create temp text) facts)

      lock_read : HasLock p read_
      lock_read = still (λ e. cc (e)) lock

      may_ : (temp : List ℕ) → w.may_mark (after_written p temp text read_) p context_name old text
      may_ temp = subst (λ z. w.may_mark (after_written p temp text read_) p context_name old (printed (changed cs z))) (sym same) (pledged.may (after_written p temp text read_) old (written_facts temp))

      go : (b : Bool) → Goes w read_ j ((if b then Return (Err (fault.TooLarge (length text))) else replaced w.run p context_name text) >>= (λ new. let_go p >>= (λ free. known (changed cs es)))) (okay Ends)
      go true = goes_stop w read_ j (fault.TooLarge (length text)) (λ (new : Unit {0}). let_go p >>= (λ free. known (changed cs es))) Ends
      go false =
          goes_then w read_ j (replaced w.run p context_name text) (λ new. let_go p >>= (λ free. known (changed cs es))) (Of (Changed w read_ p context_name text)) Ends
          (replaced_goes w few p lets read_ j context_name old text is lock_read base may_
          (λ temp m. pledged.lets (after_written p temp text read_) temp (written_facts temp) (still (λ e. cc (e)) (still (λ e. cc (e)) lock_read)) m))
          (λ made i u c. closing made read_ i (changed cs es) text (λ s. settled_kept later (step.Read p context_name LIMIT_BYTES) a tt (settled_ s)) c)

  -- the context is read under the lock
  record HasRead (later : List Deed) (now_ : List Deed) (es : List NamedValue) : Type 0 where
    answer_ : Answer
    old : List ℕ
    deeds : now_ ≡ did (step.Read p context_name LIMIT_BYTES) answer_ ∷ later
    same : es ≡ entries_in old
    base : IsBase w.run p context_name old (did (step.Read p context_name LIMIT_BYTES) answer_ ∷ later)

  abbrev Reads : List Deed → Outcome (List NamedValue)
  Reads later now_ i es = HasRead later now_ es

  read_goes : (later : List Deed) (j : Hand) → HasLock p later → Goes w later j (context_read p) (okay (Reads later))
  unfolding context_read
  read_goes later j lock =
      goes_read w later j of_stop (okay (Reads later)) p context_name LIMIT_BYTES entries_by
      (λ bytes. goes_return w _ j (entries_in bytes) (okay (Reads later)) (record { answer_ = answer.Content bytes; old = bytes; deeds = refl; same = refl; base = found (LIMIT_BYTES, refl) lock }))
      (λ l. goes_end w _ j (fault.TooLarge l) (Reads later))
      (goes_return w _ j [] (okay (Reads later)) (record { answer_ = answer.Gone; old = []; deeds = refl; same = sym no_entries; base = missing refl lock }))

  reading_ : (later : List Deed) (j : Hand) → HasLock p later → F later → (AreSettled own → AreSettled later)
      → Goes w later j (context_read p >>= (λ es. context_replaced w.run p (printed (changed cs es)) >>= (λ new. let_go p >>= (λ free. known (changed cs es))))) (okay Ends)
  reading_ later j lock f settled_ =
      goes_then w later j (context_read p) (λ es. context_replaced w.run p (printed (changed cs es)) >>= (λ new. let_go p >>= (λ free. known (changed cs es)))) (Reads later) Ends (read_goes later j lock)
      (λ now_ i es r. goes_at w now_ (did (step.Read p context_name LIMIT_BYTES) r.answer_ ∷ later) i (context_replaced w.run p (printed (changed cs es)) >>= (λ new. let_go p >>= (λ free. known (changed cs es)))) (okay Ends) r.deeds
      (writing later i r.answer_ r.old es r.same lock f settled_ r.base))

  locking_ : (a : Answer) → F own → Goes w (did (step.MakeFolder p) a ∷ own) h (locked p TRIES >>= (λ held. temps_cleared p >>= (λ clear. context_read p >>= (λ es. context_replaced w.run p (printed (changed cs es)) >>= (λ new. let_go p >>= (λ free. known (changed cs es))))))) (okay Ends)
  locking_ a f =
      goes_keeping w P F pledged.keeps made h (locked p TRIES) _ (Of (Held made p)) Ends (asks_locked P p TRIES pledged.asks.lock) (pledged.keeps own (step.MakeFolder p) a pledged.asks.make f) (locked_goes w p lets made h TRIES)
      (λ later j u facts c. goes_keeping w P F pledged.keeps later j (temps_cleared p) _ (Of (Held later p)) Ends (asks_temps_cleared P p pledged.asks.list pledged.asks.clear) facts (temps_cleared_goes w p lets later j c.lock)
      (λ next i v more d. reading_ next i d.lock more (λ s. d.settled (c.settled (settled_kept own (step.MakeFolder p) a tt s)))))
    where
      made : List Deed
      made = did (step.MakeFolder p) a ∷ own

  committed_goes : F own → Goes w own h (committed w.run p cs) (okay Ends)
  unfolding committed
  committed_goes f =
      goes_make w own h of_stop (okay Ends) p _
      (λ s. (record { is_own = careful s.unfailed Makes (makes p) (lets.serves own Makes (step.MakeFolder p) refl refl) (λ q l c. absurd c); marks = tt; steps = λ no. lets.make own }, tt))
      (locking_ answer.Done f) (locking_ answer.Exists f)

  -- a commit of the context goes as pledged: each of its steps is careful, in order under the lock of the mail
  -- directory, and the new text is what the changes make of the base
  pub commit_goes : F own → Goes w own h (commit_context w.run p cs) (okay Ends)
  unfolding Goes commit_context
  commit_goes f = λ s. go (settled cs h.context) refl
    where
      go : (b : Bool) → settled cs h.context ≡ b → Goes w own h (commit_by w.run p cs b) (okay Ends)
      go true e = record { settled_still = λ t. t; done = inl (e, refl) }
      go false e = committed_goes f
