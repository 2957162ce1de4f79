-- The begin of a folder leaves the mail directory safe: where it is done, what the run put there was made safe.
use Rattle.std.proofs.Common.{◌≡◌, ◌∷◌, ℕ, zero, suc, Bool, true, false, List, Result, Ok, Err, inr, length, nat_lt, refl}
use Rattle.std.specs.Prelude.{if◌then◌else◌}
use Rattle.mh_base.specs.Entries.{entry_text}
use Rattle.mh_base.specs.declared.entry.Entry.TheVariants.{Sequences}
use Rattle.mh_profile.specs.Printing.{printed}
use Rattle.mh_profile.specs.declared.named_value.NamedValue.{NamedValue}
use Rattle.mh_sequences.specs.Printing.{private_entries, text_of}
use Rattle.mh_sequences.specs.Reading.{suffix}
use Rattle.mh_sequences.specs.Sequences.{Marked}
use Rattle.folder_files.specs.Deeds.{Deed, WasDone, did, last, now, on}
use Rattle.folder_files.specs.declared.place.Place.{Place}
use Rattle.folder_files.specs.declared.place.Place.TheVariants.{Folder, Mail}
use Rattle.folder_files.specs.declared.step.Step.{Step}
use Rattle.folder_files.specs.declared.step.Step.TheVariants as step
use Rattle.file_plans.specs.Asking.{make_folder}
use Rattle.file_plans.specs.Framing.{AsksOnly}
use Rattle.file_plans.specs.Plan.{Ask, Hand, Hear, Note, Plan, Recall, Return, Say, Try, after, bind, lifted, ◌>>=◌}
use Rattle.file_plans.proofs.Framing.{AnyStep, asks_any, asks_none}
use Rattle.step_plans.specs.ContextCommit.{LIMIT_BYTES, TRIES, changed, commit_by, commit_context, committed, context_name, context_read, context_replaced, settled}
use Rattle.step_plans.specs.Hands.{known}
use Rattle.step_plans.specs.Locking.{cleared, let_go, lock_name, locked, locked_by, temps_cleared}
use Rattle.step_plans.specs.PlanFaults.{of_stop}
use Rattle.step_plans.specs.Replacing.{held_to, renamed, replaced, synced, written}
use Rattle.step_plans.specs.declared.change.ChangeEntry.{ChangeEntry}
use Rattle.step_plans.specs.declared.fault.PlanFault.{PlanFault}
use Rattle.step_plans.specs.declared.fault.PlanFault.TheVariants as fault
use Rattle.step_plans.proofs.Asks.{Commits, asks_cleared, asks_let_go, asks_replaced}
use Rattle.step_plans.proofs.Coming.{Comes, comes_bind, comes_framed, comes_lock, comes_more, comes_sync_folder, comes_to}
use Rattle.step_plans.proofs.Going.{Outcome}
use Rattle.step_plans.proofs.Lasting.{KeptBy}
use Rattle.held_messages.specs.Settle.{Settled, put_back}
use Rattle.sequence_commits.specs.Committing.{changed_sequences, committed_unless, entries_committed, sequences_replaced, told_committed}
use Rattle.sequence_commits.specs.Cutting.{cut_to}
use Rattle.sequence_commits.specs.PrivateChanges.{changes_to}
use Rattle.mh_profile.specs.Reading.{entries_seen}
use Rattle.sequence_commits.specs.Telling.{same_told}
use Rattle.sequence_commits.proofs.SequencesPledged.{sequences_name}
use Rattle.opening_plans.specs.Endings.{PutsBackups}
use Rattle.opening_plans.specs.Existing.{numbers_settled}
use Rattle.opening_plans.specs.Opening.{Opened, begun, folder_locked, locked_begun, mail_made, marks_cut, marks_read, opened_of, settled_read}
use Rattle.opening_plans.proofs.BegunAgain.{IsLeftSafe, PutsNothing, left_safe_kept}
use Rattle.opening_plans.proofs.CleanRuns.{comes_both}
use Rattle.opening_plans.proofs.NamesKept.{backups_kept, putting}
use Rattle.refile_plans.proofs.BeginsAsks.{Opens, asks_back, asks_lock, asks_mail, asks_marks}

-- where a plan is Ok, this holds
abbrev pub OkOnly : {A E : Type 0} → (List Deed → Type 0) → Outcome (Result A E)
OkOnly F later j (Ok a) = F later
OkOnly F later j (Err e) = Unit {0}

-- a plan that comes comes to the end of its first part, and goes on from there
pub comes_inverse : {A B : Type 0} (own : List Deed) (h : Hand) (p : Plan A) (k : A → Plan B) (Q : Outcome B) → Comes own h (bind p k) Q → Comes own h p (λ later j a. Comes later j (k a) Q)
unfolding Comes bind
comes_inverse own h (Return r) k Q f = f
comes_inverse own h (Ask s next) k Q f = λ a row live. comes_inverse (did s a ∷ own) h (next a) k Q (f a row live)
comes_inverse own h (Try s next) k Q f = absurd f
comes_inverse own h (Say piece next) k Q f = comes_inverse own h next k Q f
comes_inverse own h (Hear most next) k Q f = λ piece short. comes_inverse own h (next piece) k Q (f piece short)
comes_inverse own h (Recall next) k Q f = comes_inverse own h (next h) k Q f
comes_inverse own h (Note j next) k Q f = comes_inverse own j next k Q f

-- one part that comes so, and then the rest
comes_next : {A B E : Type 0} (own : List Deed) (h : Hand) (p : Plan (Result A E)) (k : A → Plan (Result B E)) (Q : Outcome (Result B E)) (P : Outcome (Result A E)) (G : List Deed → Type 0) → Comes own h (p >>= k) Q
    → (Comes own h p (λ later j r. Comes later j (after k r) Q) → Comes own h p P) → ((later : List Deed) (j : Hand) (a : A) → P later j (Ok a) → Comes later j (k a) Q → Comes later j (k a) (OkOnly G)) → Comes own h (p >>= k) (OkOnly G)
unfolding ◌>>=◌
comes_next own h p k Q P G c part next = comes_bind own h p (after k) (λ later j r. P later j r × Comes later j (after k r) Q) (OkOnly G) (both (part inverse) inverse) go
  where
    inverse : Comes own h p (λ later j r. Comes later j (after k r) Q)
    inverse = comes_inverse own h p (after k) Q c

    both : Comes own h p P → Comes own h p (λ later j r. Comes later j (after k r) Q) → Comes own h p (λ later j r. P later j r × Comes later j (after k r) Q)
    both f g = comes_both own h p P (λ later j r. Comes later j (after k r) Q) f g

    go : (later : List Deed) (j : Hand) (r : Result _ _) → P later j r × Comes later j (after k r) Q → Comes later j (after k r) (OkOnly G)
    go later j (Ok a) q = next later j a q.0 q.1
    go later j (Err e) q = comes_to later j (Err e) (OkOnly G) tt

-- one part whose steps keep a fact, and then the rest
comes_kept : {A B E : Type 0} (P : Step → Type 0) (F : List Deed → Type 0) → KeptBy P F → (own : List Deed) (h : Hand) (p : Plan (Result A E)) (k : A → Plan (Result B E)) (Q : Outcome (Result B E)) (G : List Deed → Type 0) → AsksOnly P p → F own → Comes own h (p >>= k) Q
    → ((later : List Deed) (j : Hand) (a : A) → F later → Comes later j (k a) Q → Comes later j (k a) (OkOnly G)) → Comes own h (p >>= k) (OkOnly G)
comes_kept P F keeps own h p k Q G asks f c next = comes_next own h p k Q (λ later j r. F later × Comes later j (after k r) Q) G c (λ d. comes_framed P F keeps own h p (λ later j r. Comes later j (after k r) Q) asks f d) (λ later j a q d. next later j a q.0 d)

-- the last part
comes_last : {A E : Type 0} (P : Step → Type 0) (F : List Deed → Type 0) → KeptBy P F → (own : List Deed) (h : Hand) (p : Plan (Result A E)) (Q : Outcome (Result A E)) → AsksOnly P p → F own → Comes own h p Q → Comes own h p (OkOnly F)
comes_last P F keeps own h p Q asks f c = comes_more own h p (λ later j r. F later × Q later j r) (OkOnly F) go (comes_framed P F keeps own h p Q asks f c)
  where
    go : (later : List Deed) (j : Hand) (r : Result _ _) → F later × Q later j r → OkOnly F later j r
    go later j (Ok a) q = q.0
    go later j (Err e) q = tt

module _ (run : ℕ) (path : List ℕ) where
  abbrev mail : Place
  mail = Mail path

  abbrev Nothing : List Deed → Type 0
  Nothing own = Unit {0}

  nothing : KeptBy AnyStep Nothing
  nothing own s a any f = tt

  abbrev HasLocked : List Deed → Type 0
  HasLocked own = WasDone (step.Lock mail) own

  locked_stays : KeptBy AnyStep HasLocked
  locked_stays own s a any f = on f

  locked_done : (n : ℕ) (own : List Deed) (h : Hand) → Comes own h (locked mail n) (OkOnly HasLocked)
  unfolding locked
  locked_done zero own h = comes_to own h (Err (fault.Locked mail)) (OkOnly HasLocked) tt
  locked_done (suc n) own h =
      comes_lock own h of_stop (OkOnly HasLocked) mail (λ l. locked_by mail l (locked mail n)) (comes_to _ h (Ok tt) (OkOnly HasLocked) (now refl)) (locked_done n (did (step.Lock mail) _ ∷ own) h)
      (comes_to _ h (Err (fault.Meddled mail lock_name)) (OkOnly HasLocked) tt)

  -- what was put there is safe
  abbrev IsSafe : List Deed → Type 0
  IsSafe own = PutsBackups mail own

  sync_safe : (own : List Deed) (h : Hand) → Comes own h (synced mail context_name) (OkOnly IsSafe)
  unfolding synced
  sync_safe own h =
      comes_sync_folder own h of_stop (OkOnly IsSafe) mail (held_to mail context_name) (comes_to _ h (Ok tt) (OkOnly IsSafe) (last (inr refl))) (comes_to _ h (Err (fault.Meddled mail context_name)) (OkOnly IsSafe) tt)

  replaced_safe : (text : List ℕ) (own : List Deed) (h : Hand) (Q : Outcome (Result Unit PlanFault)) → Comes own h (replaced run mail context_name text) Q → Comes own h (replaced run mail context_name text) (OkOnly IsSafe)
  unfolding replaced
  replaced_safe text own h Q c =
      comes_kept AnyStep Nothing nothing own h (written run mail text) (λ temp. renamed mail temp context_name >>= (λ moved. synced mail context_name)) Q IsSafe (asks_any (written run mail text)) tt c
      (λ later j temp f d.
      comes_kept AnyStep Nothing nothing later j (renamed mail temp context_name) (λ moved. synced mail context_name) Q IsSafe (asks_any (renamed mail temp context_name)) tt d
      (λ end i u g e. sync_safe end i))

  text_safe : (text : List ℕ) (own : List Deed) (h : Hand) (Q : Outcome (Result Unit PlanFault)) → Comes own h (context_replaced run mail text) Q → Comes own h (context_replaced run mail text) (OkOnly IsSafe)
  unfolding context_replaced
  text_safe text own h Q c = go (nat_lt LIMIT_BYTES (length text)) c
    where
      go : (b : Bool) → Comes own h (if b then Return (Err (fault.TooLarge (length text))) else replaced run mail context_name text) Q → Comes own h (if b then Return (Err (fault.TooLarge (length text))) else replaced run mail context_name text) (OkOnly IsSafe)
      go true d = comes_to own h (Err (fault.TooLarge (length text))) (OkOnly IsSafe) tt
      go false d = replaced_safe text own h Q d

  -- the run locked it, and what it put there is safe
  abbrev Both : List Deed → Type 0
  Both own = HasLocked own × IsSafe own

  both_kept : KeptBy (PutsNothing mail) Both
  both_kept own s a off f = (on f.0, backups_kept mail s a own (λ y w. off (putting mail y s a w)) f.1)

  asks_known : (es : List NamedValue) → AsksOnly (PutsNothing mail) (known es)
  unfolding AsksOnly known
  asks_known es = λ h. tt

  committed_safe : (cs : List ChangeEntry) (own : List Deed) (h : Hand) (Q : Outcome (Result Unit PlanFault)) → Comes own h (committed run mail cs) Q → Comes own h (committed run mail cs) (OkOnly Both)
  unfolding committed
  committed_safe cs own h Q c =
      comes_kept AnyStep Nothing nothing own h (lifted of_stop (make_folder mail)) _ Q Both (asks_any (lifted of_stop (make_folder mail))) tt c
      (λ own1 h1 made f1 c1.
      comes_next own1 h1 (locked mail TRIES) _ Q (OkOnly HasLocked) Both c1 (λ d. locked_done TRIES own1 h1)
      (λ own2 h2 held lock c2.
      comes_kept AnyStep HasLocked locked_stays own2 h2 (temps_cleared mail) _ Q Both (asks_any (temps_cleared mail)) lock c2
      (λ own3 h3 clear lock3 c3.
      comes_kept AnyStep HasLocked locked_stays own3 h3 (context_read mail) _ Q Both (asks_any (context_read mail)) lock3 c3
      (λ own4 h4 es lock4 c4.
      comes_next own4 h4 (context_replaced run mail (printed (changed cs es))) _ Q (λ later j r. HasLocked later × OkOnly IsSafe later j r) Both c4
      (λ d. comes_framed AnyStep HasLocked locked_stays own4 h4 (context_replaced run mail (printed (changed cs es))) (OkOnly IsSafe) (asks_any (context_replaced run mail (printed (changed cs es)))) lock4 (text_safe (printed (changed cs es)) own4 h4 _ d))
      (λ own5 h5 new both c5.
      comes_kept (PutsNothing mail) Both both_kept own5 h5 (let_go mail) (λ free. known (changed cs es)) Q Both (asks_let_go (PutsNothing mail) mail (λ e. e)) both c5
      (λ own6 h6 free both6 c6. comes_last (PutsNothing mail) Both both_kept own6 h6 (known (changed cs es)) Q (asks_known (changed cs es)) both6 c6))))))

  abbrev Safely : List Deed → Type 0
  Safely own = IsLeftSafe mail own

  both_safely : {A E : Type 0} (later : List Deed) (j : Hand) (r : Result A E) → OkOnly Both later j r → OkOnly Safely later j r
  both_safely later j (Ok a) f = inr f
  both_safely later j (Err e) f = tt

  -- a commit of the context leaves it so
  commit_safe : (cs : List ChangeEntry) (own : List Deed) (h : Hand) (Q : Outcome (Result Unit PlanFault)) → Safely own → Comes own h (commit_context run mail cs) Q → Comes own h (commit_context run mail cs) (OkOnly Safely)
  unfolding Comes commit_context
  commit_safe cs own h Q f c = go (settled cs h.context) c
    where
      go : (b : Bool) → Comes own h (commit_by run mail cs b) Q → Comes own h (commit_by run mail cs b) (OkOnly Safely)
      go true d = f
      go false d = comes_more own h (committed run mail cs) (OkOnly Both) (OkOnly Safely) (λ later j r g. both_safely later j r g) (committed_safe cs own h Q d)

  entries_safe : (ending : List ℕ) (kept : List NamedValue) (own : List Deed) (h : Hand) (Q : Outcome (Result Unit PlanFault)) → Safely own → Comes own h (entries_committed run mail ending kept) Q → Comes own h (entries_committed run mail ending kept) (OkOnly Safely)
  unfolding Comes entries_committed
  entries_safe ending kept own h Q f c = commit_safe (changes_to ending kept (entries_seen h.context)) own h Q f c

  module _ (folder : List ℕ) where
    abbrev p : Place
    p = Folder path folder

    apart : p ≡ mail → ⊥
    apart e = cc (e)

    texts : Commits (PutsNothing mail) p sequences_name
    texts = record {
      make = λ e. e;
      lock = λ e. e;
      list = λ e. e;
      clear = λ temp is. λ e. e;
      read = λ e. e;
      create = λ temp bytes. apart;
      sync_file = λ temp. λ e. e;
      rename = λ temp. apart;
      sync = λ e. e;
      unlock = λ e. e;
    }

    here_ : Opens (PutsNothing mail) run p mail
    here_ = record { text = texts; make_mail = λ e. e; sync_mail = λ e. e; read_context = λ e. e; give = λ h number pair others. apart; drop = λ name. λ e. e }

    asks_text : (text : List ℕ) → AsksOnly (PutsNothing mail) (sequences_replaced run p text)
    unfolding sequences_replaced
    asks_text text = go (nat_lt LIMIT_BYTES (length text))
      where
        go : (b : Bool) → AsksOnly (PutsNothing mail) (if b then Return (Err (fault.TooLarge (length text))) else replaced run p (entry_text Sequences) text)
        go true = asks_none (PutsNothing mail) (Err (fault.TooLarge (length text)))
        go false = asks_replaced (PutsNothing mail) run p (entry_text Sequences) text texts

    -- and so does one of the folder's sequences
    sequences_safe : (old new : Marked) (own : List Deed) (h : Hand) (Q : Outcome (Result Unit PlanFault)) → Safely own → Comes own h (changed_sequences run p mail folder old new) Q → Comes own h (changed_sequences run p mail folder old new) (OkOnly Safely)
    unfolding changed_sequences told_committed
    sequences_safe old new own h Q f c = go (same_told folder old new) c
      where
        go : (b : Bool) → Comes own h (committed_unless b run p mail folder new) Q → Comes own h (committed_unless b run p mail folder new) (OkOnly Safely)
        go true d = comes_to own h (Ok tt) (OkOnly Safely) f
        go false d =
            comes_kept (PutsNothing mail) Safely (left_safe_kept mail) own h (sequences_replaced run p (text_of new)) (λ written. entries_committed run mail (suffix folder) (private_entries (suffix folder) new.users)) Q Safely (asks_text (text_of new)) f d
            (λ later j u g e. entries_safe (suffix folder) (private_entries (suffix folder) new.users) later j Q g e)

    cut_safe : (s : Settled) (m : Marked) (own : List Deed) (h : Hand) (Q : Outcome (Result Opened PlanFault)) → Safely own → Comes own h (marks_cut run p mail folder s m) Q → Comes own h (marks_cut run p mail folder s m) (OkOnly Safely)
    unfolding marks_cut
    cut_safe s m own h Q f c =
        comes_next own h (changed_sequences run p mail folder m (cut_to (numbers_settled run s) m)) (λ cut. Return (Ok (opened_of p folder (numbers_settled run s) (cut_to (numbers_settled run s) m) s.ends))) Q (OkOnly Safely) Safely c
        (λ d. sequences_safe m (cut_to (numbers_settled run s) m) own h _ f d)
        (λ later j u g e. comes_to later j (Ok (opened_of p folder (numbers_settled run s) (cut_to (numbers_settled run s) m) s.ends)) (OkOnly Safely) g)

    -- the whole
    pub begun_safe : (own : List Deed) (h : Hand) (Q : Outcome (Result Opened PlanFault)) → Safely own → Comes own h (begun run p mail folder) Q → Comes own h (begun run p mail folder) (OkOnly Safely)
    unfolding begun locked_begun settled_read
    begun_safe own h Q f c =
        comes_kept (PutsNothing mail) Safely (left_safe_kept mail) own h (folder_locked p) _ Q Safely (asks_lock (PutsNothing mail) run p mail here_) f c
        (λ own1 h1 held f1 c1.
        comes_kept (PutsNothing mail) Safely (left_safe_kept mail) own1 h1 (mail_made mail) _ Q Safely (asks_mail (PutsNothing mail) run p mail here_) f1 c1
        (λ own2 h2 made f2 c2.
        comes_kept (PutsNothing mail) Safely (left_safe_kept mail) own2 h2 (put_back run p) _ Q Safely (asks_back (PutsNothing mail) run p mail here_) f2 c2
        (λ own3 h3 s f3 c3.
        comes_kept (PutsNothing mail) Safely (left_safe_kept mail) own3 h3 (cleared p s.names) _ Q Safely (asks_cleared (PutsNothing mail) p s.names (λ temp is. λ e. e)) f3 c3
        (λ own4 h4 clear f4 c4.
        comes_kept (PutsNothing mail) Safely (left_safe_kept mail) own4 h4 (marks_read p mail folder) _ Q Safely (asks_marks (PutsNothing mail) run p mail here_ folder) f4 c4
        (λ own5 h5 m f5 c5. cut_safe s m own5 h5 Q f5 c5)))))
