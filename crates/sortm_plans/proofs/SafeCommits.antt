-- A commit of a folder's sequences that was made: the run wrote the text, gave it their name, and then made the folder safe.
use Rattle.std.proofs.Common.{◌≡◌, ◌⊎◌, inl, inr, ◌<◌, ◌^◌, ◌∷◌, ℕ, Bool, true, false, List, Result, Ok, Err, refl, sym, subst, nat_lt, length}
use Rattle.std.specs.Prelude.{if◌then◌else◌}
use Rattle.mh_base.specs.Entries.{entry_text}
use Rattle.mh_base.specs.declared.entry.Entry.TheVariants.{Sequences}
use Rattle.mh_profile.specs.declared.named_value.NamedValue.{NamedValue}
use Rattle.mh_sequences.specs.Printing.{private_entries, text_of}
use Rattle.mh_sequences.specs.Reading.{suffix}
use Rattle.mh_sequences.specs.Sequences.{Marked}
use Rattle.folder_files.specs.Careful.{HasLock}
use Rattle.folder_files.specs.Deeds.{Deed, Once, WasDone, did, now, on}
use Rattle.folder_files.specs.declared.place.Place.{Place}
use Rattle.folder_files.specs.declared.place.Place.TheVariants.{Mail}
use Rattle.folder_files.specs.declared.step.Answer.TheVariants as answer
use Rattle.folder_files.specs.declared.step.Step.TheVariants as step
use Rattle.folder_files.proofs.Names.{not_both}
use Rattle.file_plans.specs.Plan.{Ask, Hand, Hear, Note, Plan, Recall, Return, Say, Try, ◌>>=◌}
use Rattle.file_plans.proofs.Framing.{AnyStep}
use Rattle.step_plans.specs.Commits.{IsBase}
use Rattle.step_plans.specs.ContextCommit.{LIMIT_BYTES}
use Rattle.step_plans.specs.Hands.{named, named_by}
use Rattle.step_plans.specs.Pledges.{Pledge}
use Rattle.step_plans.specs.PlanFaults.{of_stop}
use Rattle.step_plans.specs.Replacing.{created, entered_once, held_to, made_safe, renamed, replaced, synced, written}
use Rattle.step_plans.specs.Settled.{AreSettled}
use Rattle.step_plans.specs.declared.fault.PlanFault.{PlanFault}
use Rattle.step_plans.specs.declared.fault.PlanFault.TheVariants as fault
use Rattle.step_plans.proofs.Coming.{Comes, comes_create, comes_rename, comes_sync_file, comes_sync_folder, comes_then, comes_to}
use Rattle.step_plans.proofs.Going.{Goes, Outcome, goes_more, goes_then, okay}
use Rattle.step_plans.proofs.Lasting.{KeptBy, lasting}
use Rattle.step_plans.proofs.Pledged.{Changed, IsPledged, Known, Of}
use Rattle.step_plans.proofs.Stepping.{goes_return}
use Rattle.step_plans.proofs.Written.{Serves}
use Rattle.sequence_commits.specs.Committing.{changed_sequences, committed_unless, entries_committed, sequences_replaced, told_committed}
use Rattle.sequence_commits.specs.PrivateChanges.{changes_to}
use Rattle.mh_profile.specs.Reading.{entries_seen}
use Rattle.sequence_commits.specs.Telling.{same_told}
use Rattle.sequence_commits.proofs.SequencesPledged.{CommittedOrSame, MayReplace, changed_goes, entries_go, sequences_name, text_goes}
use Rattle.sortm_plans.specs.MovePledge.{HasCommitted}

-- two outcomes of a plan that goes as pledged
pub goes_both : {R : Type 0} (w : Pledge) (own : List Deed) (h : Hand) (p : Plan R) (P Q : Outcome R) → Goes w own h p P → Goes w own h p Q → Goes w own h p (λ later j r. P later j r × Q later j r)
unfolding Goes
goes_both w own h (Return r) P Q f g = (f, g)
goes_both w own h (Ask s next) P Q f g = (f.0, λ a row live. goes_both w (did s a ∷ own) h (next a) P Q (f.1 a row live) (g.1 a row live))
goes_both w own h (Try s next) P Q f g = absurd f
goes_both w own h (Say piece next) P Q f g = (f.0, goes_both w own h next P Q f.1 g.1)
goes_both w own h (Hear most next) P Q f g = λ piece short. goes_both w own h (next piece) P Q (f piece short) (g piece short)
goes_both w own h (Recall next) P Q f g = λ s. goes_both w own h (next h) P Q (f s) (g s)
goes_both w own h (Note j next) P Q f g = (f.0, goes_both w own j next P Q f.1 g.1)

-- and of one that comes to another
pub goes_comes : {R : Type 0} (w : Pledge) (own : List Deed) (h : Hand) (p : Plan R) (P Q : Outcome R) → Goes w own h p P → Comes own h p Q → Goes w own h p (λ later j r. P later j r × Q later j r)
unfolding Goes Comes
goes_comes w own h (Return r) P Q f g = (f, g)
goes_comes w own h (Ask s next) P Q f g = (f.0, λ a row live. goes_comes w (did s a ∷ own) h (next a) P Q (f.1 a row live) (g a row live))
goes_comes w own h (Try s next) P Q f g = absurd f
goes_comes w own h (Say piece next) P Q f g = (f.0, goes_comes w own h next P Q f.1 g)
goes_comes w own h (Hear most next) P Q f g = λ piece short. goes_comes w own h (next piece) P Q (f piece short) (g piece short)
goes_comes w own h (Recall next) P Q f g = λ s. goes_comes w own h (next h) P Q (f s) g
goes_comes w own h (Note j next) P Q f g = (f.0, goes_comes w own j next P Q f.1 g)

pub okay_both : {A E : Type 0} (P Q : Outcome A) (own : List Deed) (h : Hand) (r : Result A E) → okay P own h r × okay Q own h r → okay (λ later j a. P later j a × Q later j a) own h r
okay_both P Q own h (Ok a) f = f
okay_both P Q own h (Err e) f = tt

-- the text was written, then moved, then made safe
abbrev Moved : Place → List ℕ → List ℕ → List Deed → Type 0
Moved p name text own = Once (λ e before. (temp : List ℕ) × (e ≡ did (step.Rename p temp name) answer.Done) × WasDone (step.Create p temp text) before) own

abbrev Safe : Place → List ℕ → List ℕ → List Deed → Type 0
Safe p name text own = Once (λ d older. (d ≡ did (step.SyncFolder p) answer.Done) × Moved p name text older) own

pub safe_kept : (p : Place) (name text : List ℕ) → KeptBy AnyStep (Safe p name text)
safe_kept p name text own s a any f = on f

module _ (run : ℕ) (p : Place) (name text : List ℕ) where
  abbrev So : {A : Type 0} → Outcome A → Outcome (Result A PlanFault)
  So P later j r = okay P later j r

  named_comes : (own : List Deed) (h : Hand) → Comes own h (named run) (So (λ later j temp. Unit {0}))
  unfolding Comes named
  named_comes own h = go (nat_lt h.next (2 ^ 64))
    where
      go : (b : Bool) → Comes own h (named_by run h b) (So (λ later j temp. Unit {0}))
      go true = tt
      go false = tt

  created_comes : (own : List Deed) (h : Hand) (temp : List ℕ) → Comes own h (created p temp text) (So (λ later j u. WasDone (step.Create p temp text) later))
  unfolding created
  created_comes own h temp =
      comes_create own h of_stop (So (λ later j u. WasDone (step.Create p temp text) later)) p temp text (entered_once p temp) (comes_to _ h (Ok tt) (So (λ later j u. WasDone (step.Create p temp text) later)) (now refl))
      (comes_to _ h (Err (fault.Meddled p temp)) (So (λ later j u. WasDone (step.Create p temp text) later)) tt) (comes_to _ h (Err (fault.Meddled p temp)) (So (λ later j u. WasDone (step.Create p temp text) later)) tt)

  made_safe_comes : (own : List Deed) (h : Hand) (temp : List ℕ) → WasDone (step.Create p temp text) own → Comes own h (made_safe p temp) (So (λ later j u. WasDone (step.Create p temp text) later))
  unfolding made_safe
  made_safe_comes own h temp f =
      comes_sync_file own h of_stop (So (λ later j u. WasDone (step.Create p temp text) later)) p temp (held_to p temp) (comes_to _ h (Ok tt) (So (λ later j u. WasDone (step.Create p temp text) later)) (on f))
      (comes_to _ h (Err (fault.Meddled p temp)) (So (λ later j u. WasDone (step.Create p temp text) later)) tt)

  abbrev Wrote : Outcome (List ℕ)
  Wrote later j temp = WasDone (step.Create p temp text) later

  written_comes : (own : List Deed) (h : Hand) → Comes own h (written run p text) (So Wrote)
  unfolding written
  written_comes own h =
      comes_then own h (named run) (λ temp. created p temp text >>= (λ made. made_safe p temp >>= (λ safe. Return (Ok temp)))) (So (λ later j temp. Unit {0})) (So Wrote) (named_comes own h)
      (λ later j temp u.
      comes_then later j (created p temp text) (λ made. made_safe p temp >>= (λ safe. Return (Ok temp))) (So (λ last i v. WasDone (step.Create p temp text) last)) (So Wrote) (created_comes later j temp)
      (λ last i v f.
      comes_then last i (made_safe p temp) (λ safe. Return (Ok temp)) (So (λ end k x. WasDone (step.Create p temp text) end)) (So Wrote) (made_safe_comes last i temp f) (λ end k x g. comes_to end k (Ok temp) (So Wrote) g) (λ end k e g. tt))
      (λ last i e f. tt))
      (λ later j e u. tt)

  replaced_comes : (own : List Deed) (h : Hand) → Comes own h (replaced run p name text) (So (λ later j u. Safe p name text later))
  unfolding replaced renamed synced
  replaced_comes own h =
      comes_then own h (written run p text) (λ temp. renamed p temp name >>= (λ moved. synced p name)) (So Wrote) Ends (written_comes own h)
      (λ later j temp f.
      comes_then later j (renamed p temp name) (λ moved. synced p name) (So (λ last i u. Moved p name text last)) Ends
      (comes_rename later j of_stop (So (λ last i u. Moved p name text last)) p temp name (held_to p temp) (comes_to _ j (Ok tt) (So (λ last i u. Moved p name text last)) (now (temp, refl, f)))
      (comes_to _ j (Err (fault.Meddled p temp)) (So (λ last i u. Moved p name text last)) tt))
      (λ last i u g. comes_sync_folder last i of_stop Ends p (held_to p name) (comes_to _ i (Ok tt) Ends (now (refl, g))) (comes_to _ i (Err (fault.Meddled p name)) Ends tt))
      (λ last i e g. tt))
      (λ later j e f. tt)
    where
      Ends : Outcome (Result Unit PlanFault)
      Ends later j r = So (λ end i u. Safe p name text end) later j r

text_comes : (run : ℕ) (p : Place) (text : List ℕ) (own : List Deed) (h : Hand) → Comes own h (sequences_replaced run p text) (okay (λ later j u. Safe p (entry_text Sequences) text later))
unfolding sequences_replaced
text_comes run p text own h = go (nat_lt LIMIT_BYTES (length text))
  where
    go : (b : Bool) → Comes own h (if b then Return (Err (fault.TooLarge (length text))) else replaced run p (entry_text Sequences) text) (okay (λ later j u. Safe p (entry_text Sequences) text later))
    go true = comes_to own h (Err (fault.TooLarge (length text))) (okay (λ later j u. Safe p (entry_text Sequences) text later)) tt
    go false = replaced_comes run p (entry_text Sequences) text own h

-- new sequences are committed in place of others
module _ (w : Pledge) (few : w.run < 2 ^ 128) (p : Place) (lets : Serves w p) (path : List ℕ) (apart : Mail path ≡ p → ⊥) (lets_mail : Serves w (Mail path)) (folder : List ℕ) (old new : Marked)
    (F : List Deed → Type 0) (keeps : KeptBy AnyStep F) (pledged : (seen : List NamedValue) → IsPledged w (Mail path) (changes_to (suffix folder) (private_entries (suffix folder) new.users) seen) AnyStep F) where
  abbrev text : List ℕ
  text = text_of new

  abbrev kept : List NamedValue
  kept = private_entries (suffix folder) new.users

  abbrev SafeText : List Deed → Type 0
  SafeText own = Safe p (entry_text Sequences) text own

  told_safe : (own : List Deed) (h : Hand) (base : List ℕ) → F own → MayReplace w p base text own → Goes w own h (told_committed w.run p (Mail path) (suffix folder) text kept) (okay (Of SafeText))
  unfolding told_committed
  told_safe own h base f may =
      goes_then w own h (sequences_replaced w.run p text) (λ written. entries_committed w.run (Mail path) (suffix folder) kept) (λ later j u. (F later × Changed w own p sequences_name text later) × SafeText later) (Of SafeText)
      (goes_more w own h (sequences_replaced w.run p text) (λ later j r. okay (λ last i u. F last × Changed w own p sequences_name text last) later j r × okay (Of SafeText) later j r) (okay (λ later j u. (F later × Changed w own p sequences_name text later) × SafeText later))
      (okay_both (λ last i u. F last × Changed w own p sequences_name text last) (Of SafeText))
      (goes_comes w own h (sequences_replaced w.run p text) (okay (λ last i u. F last × Changed w own p sequences_name text last)) (okay (Of SafeText))
      (lasting w F keeps own h (sequences_replaced w.run p text) (Of (Changed w own p sequences_name text)) f (text_goes w few p lets own h base text may)) (text_comes w.run p text own h)))
      (λ later j u q.
      goes_more w later j (entries_committed w.run (Mail path) (suffix folder) kept) (okay (λ last i v. SafeText last × Known w later (Mail path) (changes_to (suffix folder) kept (entries_seen j.context)) j last)) (okay (Of SafeText))
      (only (Known w later (Mail path) (changes_to (suffix folder) kept (entries_seen j.context)) j))
      (lasting w SafeText (safe_kept p (entry_text Sequences) text) later j (entries_committed w.run (Mail path) (suffix folder) kept) (Of (Known w later (Mail path) (changes_to (suffix folder) kept (entries_seen j.context)) j)) q.1
      (entries_go w few p lets path apart lets_mail (suffix folder) kept F keeps pledged later j q.0.0)))
    where
      only : (K : List Deed → Type 0) (last : List Deed) (i : Hand) (r : Result Unit PlanFault) → okay (λ end k v. SafeText end × K end) last i r → okay (Of SafeText) last i r
      only K last i (Ok v) g = g.0
      only K last i (Err e) g = tt

  -- where another text is told it was committed so
  changed_safe : (own : List Deed) (h : Hand) (base : List ℕ) → F own → MayReplace w p base text own → Goes w own h (changed_sequences w.run p (Mail path) folder old new) (okay (Of (λ later. same_told folder old new ≡ false → SafeText later)))
  unfolding changed_sequences
  changed_safe own h base f may = go (same_told folder old new) refl
    where
      go : (b : Bool) → same_told folder old new ≡ b → Goes w own h (committed_unless b w.run p (Mail path) folder new) (okay (Of (λ later. same_told folder old new ≡ false → SafeText later)))
      go true e = goes_return w own h tt (okay (Of (λ later. same_told folder old new ≡ false → SafeText later))) (λ other. absurd (not_both (same_told folder old new) e other))
      go false e =
          goes_more w own h (told_committed w.run p (Mail path) (suffix folder) text kept) (okay (Of SafeText)) (okay (Of (λ later. same_told folder old new ≡ false → SafeText later)))
          anyway (told_safe own h base f may)
        where
          anyway : (later : List Deed) (j : Hand) (r : Result Unit PlanFault) → okay (Of SafeText) later j r → okay (Of (λ last. same_told folder old new ≡ false → SafeText last)) later j r
          anyway later j (Ok u) g = λ other. g
          anyway later j (Err x) g = tt

  -- after it: the same was told before, or it was committed so; what was settled is so still, the lock is had, and some text is the base of the next
  pub record Stands (own later : List Deed) : Type 0 where
    pub committed : (same_told folder old new ≡ true) ⊎ HasCommitted w.run p text later
    pub settled : AreSettled own → AreSettled later
    pub lock : HasLock p later
    pub base : (last : List ℕ) × IsBase w.run p sequences_name last later

  stands : (own later : List Deed) (base : List ℕ) → HasLock p own → IsBase w.run p sequences_name base own → CommittedOrSame w few p lets path apart lets_mail folder old new F keeps pledged own later → (same_told folder old new ≡ false → SafeText later) → Stands own later
  stands own later base lock is (inl same) safe = record {
    committed = inl same.0;
    settled = λ s. subst AreSettled (sym same.1) s;
    lock = subst (λ z. HasLock p z) (sym same.1) lock;
    base = (base, subst (λ z. IsBase w.run p sequences_name base z) (sym same.1) is);
  }
  stands own later base lock is (inr c) safe = record {
    committed = by (same_told folder old new) refl;
    settled = c.settled_still;
    lock = c.lock;
    base = (text, c.base);
  }
    where
      by : (b : Bool) → same_told folder old new ≡ b → (same_told folder old new ≡ true) ⊎ HasCommitted w.run p text later
      by true e = inl e
      by false e = inr (record { safe = safe e; base = c.base })

  pub stands_go : (own : List Deed) (h : Hand) (base : List ℕ) → F own → MayReplace w p base text own → Goes w own h (changed_sequences w.run p (Mail path) folder old new) (okay (Of (Stands own)))
  stands_go own h base f may =
      goes_more w own h (changed_sequences w.run p (Mail path) folder old new)
      (λ later j r. okay (Of (CommittedOrSame w few p lets path apart lets_mail folder old new F keeps pledged own)) later j r × okay (Of (λ last. same_told folder old new ≡ false → SafeText last)) later j r) (okay (Of (Stands own)))
      both_stand
      (goes_both w own h (changed_sequences w.run p (Mail path) folder old new) (okay (Of (CommittedOrSame w few p lets path apart lets_mail folder old new F keeps pledged own))) (okay (Of (λ last. same_told folder old new ≡ false → SafeText last)))
      (changed_goes w few p lets path apart lets_mail folder old new F keeps pledged own h base f may) (changed_safe own h base f may))
    where
      both_stand : (later : List Deed) (j : Hand) (r : Result Unit PlanFault)
          → okay (Of (CommittedOrSame w few p lets path apart lets_mail folder old new F keeps pledged own)) later j r × okay (Of (λ last. same_told folder old new ≡ false → SafeText last)) later j r → okay (Of (Stands own)) later j r
      both_stand later j (Ok u) g = stands own later base may.lock may.base g.0 g.1
      both_stand later j (Err e) g = tt
