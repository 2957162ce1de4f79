-- What a run knows of the marks of a folder's sequences, by what it read and committed under the folder's lock.
use Rattle.std.proofs.Common.{◌≡◌, inl, inr, ◌∷◌, [], ℕ, zero, suc, Bool, true, false, List, Result, Some, Ok, Err, refl, sym, ap, subst, nat_lt, length}
use Rattle.std.specs.Prelude.{IfSome, if◌then◌else◌}
use Rattle.mh_base.specs.Numbers.{IsMsgNum}
use Rattle.mh_base.specs.declared.entry.Entry.TheVariants.{Sequences}
use Rattle.mh_base.proofs.EntryKinds.{kind_of-entry_text}
use Rattle.mh_profile.specs.Printing.{printed}
use Rattle.mh_profile.specs.Reading.{entries_in, entries_seen}
use Rattle.mh_profile.specs.declared.named_value.NamedValue.{NamedValue}
use Rattle.mh_profile.proofs.ValidEntries.{entries_valid}
use Rattle.mh_sequences.specs.Names.{is_seq_name}
use Rattle.mh_sequences.specs.Printing.{private_entries, text_of}
use Rattle.mh_sequences.specs.Reading.{attribute, lists_private, suffix}
use Rattle.mh_sequences.specs.Sequences.{AreSequences, Marked, member}
use Rattle.mh_sequences.proofs.ContextEntries.{valid_entries}
use Rattle.mh_sequences.proofs.Suffixes.{suffix_clean}
use Rattle.folder_files.specs.Careful.{HasLock}
use Rattle.folder_files.specs.Deeds.{Deed, WasDone, did, last, still}
use Rattle.folder_files.specs.Named.{is_committed}
use Rattle.folder_files.specs.declared.place.Place.{Place}
use Rattle.folder_files.specs.declared.place.Place.TheVariants.{Folder, Mail}
use Rattle.folder_files.specs.declared.step.Answer.{Answer}
use Rattle.folder_files.specs.declared.step.Answer.TheVariants as answer
use Rattle.folder_files.specs.declared.step.Step.{Step}
use Rattle.folder_files.specs.declared.step.Step.TheVariants as step
use Rattle.folder_files.proofs.Names.{both, not_both}
use Rattle.file_plans.specs.Plan.{Hand, Plan, Return, ◌>>=◌}
use Rattle.step_plans.specs.Commits.{IsBase}
use Rattle.step_plans.specs.Commits as commits
use Rattle.step_plans.specs.ContextCommit.{AreChanges, LIMIT_BYTES, TRIES, changed, commit_by, commit_context, committed, context_name, context_read, context_replaced, entries_by, says, settled}
use Rattle.step_plans.specs.Hands.{known}
use Rattle.step_plans.specs.Locking.{let_go, lock_name, locked, locked_by, temps_cleared}
use Rattle.step_plans.specs.PlanFaults.{of_stop}
use Rattle.step_plans.specs.Pledges.{MayAsk, Pledge}
use Rattle.step_plans.specs.Replacing.{held_to, renamed, replaced, synced, written}
use Rattle.step_plans.specs.declared.change.ChangeEntry.{ChangeEntry}
use Rattle.step_plans.specs.declared.fault.PlanFault.{PlanFault}
use Rattle.step_plans.specs.declared.fault.PlanFault.TheVariants as fault
use Rattle.step_plans.proofs.Asks.{asks_let_go, asks_temps_cleared}
use Rattle.step_plans.proofs.Committed.{no_entries}
use Rattle.step_plans.proofs.Facts.{base_kept}
use Rattle.step_plans.proofs.Going.{Outcome, okay}
use Rattle.marks_law.specs.Apart.{IsFree}
use Rattle.marks_law.specs.Apart as apart
use Rattle.sequence_marks.specs.SequenceMarks.{private_marks, says_private, says_public}
use Rattle.sequence_commits.specs.Committing.{changed_sequences, committed_unless, entries_committed, sequences_replaced, told_committed}
use Rattle.sequence_commits.specs.PrivateChanges.{changes_to}
use Rattle.sequence_commits.specs.Telling.{same_told}
use Rattle.sequence_commits.proofs.ChangesTo.{are_changes}
use Rattle.sequence_commits.proofs.SequencesPledged.{LeavesText, entries_leave, sequences_name}
use Rattle.sequence_commits.proofs.ToldAlike.{told_same}
use Rattle.sequence_marks.proofs.OtherEntries.{by_bool}
use Rattle.opening_plans.proofs.AllMarks.{MindsAll}
use Rattle.opening_plans.proofs.CommitMinds.{IsTold}
use Rattle.opening_plans.proofs.CommitSeen.{MadeTemp, NoCommit, written_meets}
use Rattle.opening_plans.proofs.FolderSeen.{renamed_own}
use Rattle.opening_plans.proofs.FreeMarks.{FreesRead}
use Rattle.opening_plans.proofs.HandKept.{meets_hand, text_keeps}
use Rattle.opening_plans.proofs.MarksWritten.{Gives, changes_give, entries_mark, marks_given, text_back, text_marks}
use Rattle.opening_plans.proofs.Meeting.{Meets, meets_end, meets_keeping, meets_lock, meets_make, meets_more, meets_okay, meets_quietly, meets_read, meets_rename, meets_return, meets_sync_folder, meets_then, meets_weaker}
use Rattle.opening_plans.proofs.SpokenEntries.{listed_spoken, settled_gives, text_spoken}
use Rattle.refile_plans.proofs.Meetings.{AnyAsk}

module _ (w : Pledge) (path folder : List ℕ) where
  abbrev p : Place
  p = Folder path folder

  abbrev mail : Place
  mail = Mail path

  abbrev M : {R : Type 0} → List Deed → Hand → Plan R → Outcome R → Type 0
  M own h plan Q = Meets (MayAsk w) AnyAsk own h plan Q

  -- the folder's lock is had, and the run knows what this context does not mark of the folder
  abbrev pub ReadSo : List ℕ → List Deed → Type 0
  ReadSo context own = HasLock p own × FreesRead w.run path folder context own

  -- the hand knows the entries of such a context
  pub record HandKnows (own : List Deed) (h : Hand) : Type 0 where
    pub context : List ℕ
    pub hand : h.context ≡ Some (entries_in context)
    pub read : ReadSo context own

  -- of each private sequence the run knows that none is marked but what these sequences have
  abbrev pub FreesOutside : Marked → List Deed → Type 0
  FreesOutside m own = (sequence : List ℕ) (n : ℕ) → member m.users sequence n ≡ false → IsFree w.run (private_marks path folder sequence) n own

  -- and of the public ones: what it knows of the folder's text, and of the context
  pub record KnowsMarks (m : Marked) (own : List Deed) (h : Hand) : Type 0 where
    pub hand : HandKnows own h
    pub text : List ℕ
    pub base : IsBase w.run p sequences_name text own
    pub marks : (sequence : List ℕ) (n : ℕ) → says_public sequence text n ≡ true → member m.users sequence n ≡ true
    pub frees : FreesOutside m own

  -- such steps leave what was read
  pub read_kept : (context : List ℕ) (own : List Deed) (s : Step) (a : Answer) → (s ≡ step.Unlock p → ⊥) → NoCommit path s → ReadSo context own → ReadSo context (did s a ∷ own)
  read_kept context own s a off none f = (still off f.0, λ sequence n e. apart.on off none (f.1 sequence n e))

  pub outside_kept : (m : Marked) (own : List Deed) (s : Step) (a : Answer) → (s ≡ step.Unlock p → ⊥) → NoCommit path s → FreesOutside m own → FreesOutside m (did s a ∷ own)
  outside_kept m own s a off none f sequence n e = apart.on off none (f sequence n e)

  -- a file takes the place of the one with this name, and the directory is made safe
  module _ (q : Place) (F : List Deed → Type 0)
      (creates : (own : List Deed) (temp bytes : List ℕ) (a : Answer) → MayAsk w own (step.Create q temp bytes) → F own → F (did (step.Create q temp bytes) a ∷ own))
      (syncs : (own : List Deed) (temp : List ℕ) (a : Answer) → MayAsk w own (step.SyncFile q temp) → F own → F (did (step.SyncFile q temp) a ∷ own)) where
    replaced_known : (own : List Deed) (h : Hand) (name bytes : List ℕ) (E : List Deed → Type 0) → F own
        → ((later : List Deed) (temp : List ℕ) → MayAsk w later (step.Rename q temp name) → F later → WasDone (step.Create q temp bytes) later → E (did (step.SyncFolder q) answer.Done ∷ (did (step.Rename q temp name) answer.Done ∷ later)))
        → M own h (replaced w.run q name bytes) (okay (λ later j u. E later))
    unfolding replaced renamed synced
    replaced_known own h name bytes E f ends =
        meets_then (MayAsk w) AnyAsk own h (written w.run q bytes) (λ temp. renamed q temp name >>= (λ moved. synced q name)) (λ later j temp. F later × MadeTemp q temp bytes later) (λ later j u. E later)
        (meets_weaker (MayAsk w) (MindsAll (IsTold folder) w.run) AnyAsk (λ before s m. tt) own h (written w.run q bytes) (okay (λ later j temp. F later × MadeTemp q temp bytes later)) (written_meets (IsTold folder) w path folder q F creates syncs own h bytes f))
        (λ later j temp g.
        meets_then (MayAsk w) AnyAsk later j (renamed q temp name) (λ moved. synced q name) (λ last i u. E (did (step.SyncFolder q) answer.Done ∷ last)) (λ last i u. E last)
        (meets_rename (MayAsk w) AnyAsk later j of_stop (okay (λ last i u. E (did (step.SyncFolder q) answer.Done ∷ last))) q temp name (held_to q temp)
        (λ may. (
          tt,
          meets_return (MayAsk w) AnyAsk (did (step.Rename q temp name) answer.Done ∷ later) j tt (okay (λ last i u. E (did (step.SyncFolder q) answer.Done ∷ last))) (ends later temp may g.0 g.1.0),
          meets_end (MayAsk w) AnyAsk (did (step.Rename q temp name) answer.Gone ∷ later) j (fault.Meddled q temp) (λ last i u. E (did (step.SyncFolder q) answer.Done ∷ last)),
        )))
        (λ last i u e.
        meets_sync_folder (MayAsk w) AnyAsk last i of_stop (okay (λ end l v. E end)) q (held_to q name)
        (λ may. (
          tt,
          meets_return (MayAsk w) AnyAsk (did (step.SyncFolder q) answer.Done ∷ last) i tt (okay (λ end l v. E end)) e,
          meets_end (MayAsk w) AnyAsk (did (step.SyncFolder q) answer.Gone ∷ last) i (fault.Meddled q name) (λ end l v. E end),
        ))))

  -- the folder's text is committed: then it is the base
  module _ (text : List ℕ) where
    abbrev Based : List ℕ → List Deed → Type 0
    Based context own = ReadSo context own × IsBase w.run p sequences_name text own

    folder_commits : is_committed p sequences_name ≡ true
    folder_commits = rw (kind_of-entry_text Sequences tt) refl

    text_read : (context : List ℕ) (own : List Deed) (h : Hand) → ReadSo context own → M own h (sequences_replaced w.run p text) (okay (λ later j u. Based context later))
    unfolding sequences_replaced
    text_read context own h f = go (nat_lt LIMIT_BYTES (length text))
      where
        go : (b : Bool) → M own h (if b then Return (Err (fault.TooLarge (length text))) else replaced w.run p sequences_name text) (okay (λ later j u. Based context later))
        go true = meets_end (MayAsk w) AnyAsk own h (fault.TooLarge (length text)) (λ later j u. Based context later)
        go false =
            replaced_known p (ReadSo context) (λ before temp bytes a may g. read_kept context before (step.Create p temp bytes) a (λ e. cc (e)) (λ t e. cc (e)) g) (λ before temp a may g. read_kept context before (step.SyncFile p temp) a (λ e. cc (e)) (λ t e. cc (e)) g)
            own h sequences_name text (Based context) f
            (λ later temp may g made.
            let renamed_ = did (step.Rename p temp sequences_name) answer.Done ∷ later in (
              read_kept context renamed_ (step.SyncFolder p) answer.Done (λ e. cc (e)) (λ t e. cc (e)) (read_kept context later (step.Rename p temp sequences_name) answer.Done (λ e. cc (e)) (λ t e. cc (e)) g),
              base_kept w.run p sequences_name text renamed_ (step.SyncFolder p) answer.Done tt (commits.committed refl (renamed_own w p later temp sequences_name folder_commits may) made g.0),
            ))

    abbrev Written : Outcome Unit
    Written later j u = HandKnows later j × IsBase w.run p sequences_name text later

    text_known : (own : List Deed) (h : Hand) → HandKnows own h → M own h (sequences_replaced w.run p text) (okay Written)
    text_known own h f =
        meets_more (MayAsk w) AnyAsk own h (sequences_replaced w.run p text) (λ later j r. (j.context ≡ Some (entries_in f.context)) × okay (λ last i u. Based f.context last) later j r) (okay Written) joined
        (meets_hand (MayAsk w) AnyAsk (Some (entries_in f.context)) own h (sequences_replaced w.run p text) (okay (λ later j u. Based f.context later)) f.hand (text_keeps (Some (entries_in f.context)) w.run p text) (text_read f.context own h f.read))
      where
        joined : (later : List Deed) (j : Hand) (r : Result Unit PlanFault) → (j.context ≡ Some (entries_in f.context)) × okay (λ last i u. Based f.context last) later j r → okay Written later j r
        joined later j (Ok u) q = (record { context = f.context; hand = q.0; read = q.1.0 }, q.1.1)
        joined later j (Err e) q = tt

  -- the context gets the entries of these sequences, in place of those that the hand knows
  module _ (m : Marked) (valid : AreSequences m.users) (cur : IfSome m.cur IsMsgNum) where
    abbrev kept : List NamedValue
    kept = private_entries (suffix folder) m.users

    abbrev After : Outcome Unit
    After later j u = HandKnows later j × FreesOutside m later

    module _ (context : List ℕ) where
      abbrev cs : List ChangeEntry
      cs = changes_to (suffix folder) kept (entries_in context)

      ok : AreChanges cs
      ok = are_changes (suffix folder) kept (entries_in context) (valid_entries (suffix folder) m.users (suffix_clean folder) valid)

      given_member : (sequence : List ℕ) (n : ℕ) → is_seq_name sequence ≡ true → Gives cs (attribute (suffix folder) sequence) n → member m.users sequence n ≡ true
      given_member sequence n named g = entries_mark m valid cur folder sequence n named (changes_give kept (entries_in context) (suffix folder) sequence n g)

      -- where the context says it already
      settled_outside : (own : List Deed) → says (entries_in context) cs ≡ true → FreesRead w.run path folder context own → FreesOutside m own
      settled_outside own so f sequence n off = by_bool (says_private folder sequence context n)
          (λ t. let parts = both (is_seq_name sequence) (lists_private (entries_in context) (suffix folder) sequence n) t in
          absurd (not_both (member m.users sequence n) (given_member sequence n parts.0
          (settled_gives (suffix folder) sequence n cs (entries_in context) (entries_valid context) so (listed_spoken folder sequence parts.0 kept n (entries_in context) parts.1) parts.1)) off))
          (λ e. f sequence n e)

      -- where a commit makes it so
      commit_outside : (own : List Deed) (temp old : List ℕ) → MayAsk w own (step.Rename mail temp context_name) → HasLock p own → IsBase w.run mail context_name old own → WasDone (step.Create mail temp (printed (changed cs (entries_in old)))) own
          → FreesRead w.run path folder context own → FreesOutside m (did (step.Rename mail temp context_name) answer.Done ∷ own)
      commit_outside own temp old may lock base made f sequence n off = by_bool (says_private folder sequence context n)
          (λ t. apart.committed refl (renamed_own w mail own temp context_name refl may) made lock (unsaid t))
          (λ e. apart.carried refl (renamed_own w mail own temp context_name refl may) made base more (f sequence n e))
        where
          text : List ℕ
          text = printed (changed cs (entries_in old))

          unsaid : says_private folder sequence context n ≡ true → says_private folder sequence text n ≡ false
          unsaid t = by_bool (says_private folder sequence text n)
              (λ e. let parts = both (is_seq_name sequence) (lists_private (entries_in context) (suffix folder) sequence n) t in
              absurd (not_both (member m.users sequence n) (given_member sequence n parts.0 (text_spoken cs old folder sequence n ok (listed_spoken folder sequence parts.0 kept n (entries_in context) parts.1) e)) off))
              (λ e. e)

          more : says_private folder sequence text n ≡ true → says_private folder sequence old n ≡ true
          more e = let g = marks_given cs old folder sequence n ok e in elim g.1 [
            | inl given ↦ absurd (not_both (member m.users sequence n) (given_member sequence n g.0 given) off)
            | inr was ↦ was
          ]

      -- under the lock of the mail directory it is read anew
      abbrev Reads : List ℕ → List Deed → Type 0
      Reads old own = ReadSo context own × IsBase w.run mail context_name old own

      abbrev Replaced : List ℕ → List Deed → Type 0
      Replaced text own = ReadSo text own × FreesOutside m own

      replaced_context : (own : List Deed) (h : Hand) (old text : List ℕ) → text ≡ printed (changed cs (entries_in old)) → Reads old own → M own h (context_replaced w.run mail text) (okay (λ later j u. Replaced text later))
      unfolding context_replaced
      replaced_context own h old text is f = go (nat_lt LIMIT_BYTES (length text))
        where
          go : (b : Bool) → M own h (if b then Return (Err (fault.TooLarge (length text))) else replaced w.run mail context_name text) (okay (λ later j u. Replaced text later))
          go true = meets_end (MayAsk w) AnyAsk own h (fault.TooLarge (length text)) (λ later j u. Replaced text later)
          go false =
              replaced_known mail (Reads old)
              (λ before temp bytes a may g. (read_kept context before (step.Create mail temp bytes) a (λ e. cc (e)) (λ t e. cc (e)) g.0, base_kept w.run mail context_name old before (step.Create mail temp bytes) a tt g.1))
              (λ before temp a may g. (read_kept context before (step.SyncFile mail temp) a (λ e. cc (e)) (λ t e. cc (e)) g.0, base_kept w.run mail context_name old before (step.SyncFile mail temp) a tt g.1))
              own h context_name text (Replaced text) f
              (λ later temp may g made.
              let renamed_ = did (step.Rename mail temp context_name) answer.Done ∷ later in
              let temp_own = renamed_own w mail later temp context_name refl may in (
                read_kept text renamed_ (step.SyncFolder mail) answer.Done (λ e. cc (e)) (λ t e. cc (e)) (still (λ e. cc (e)) g.0.0, λ sequence n e. apart.committed refl temp_own made g.0.0 e),
                outside_kept m renamed_ (step.SyncFolder mail) answer.Done (λ e. cc (e)) (λ t e. cc (e)) (commit_outside later temp old may g.0.0 g.1 (subst (λ z. WasDone (step.Create mail temp z) later) is made) g.0.1),
              ))

      locked_known : (tries : ℕ) (own : List Deed) (h : Hand) → ReadSo context own → M own h (locked mail tries) (okay (λ later j u. ReadSo context later × HasLock mail later))
      unfolding locked
      locked_known zero own h f = meets_end (MayAsk w) AnyAsk own h (fault.Locked mail) (λ later j u. ReadSo context later × HasLock mail later)
      locked_known (suc n) own h f =
          meets_lock (MayAsk w) AnyAsk own h of_stop (okay (λ later j u. ReadSo context later × HasLock mail later)) mail (λ l. locked_by mail l (locked mail n))
          (λ may. (
            tt,
            meets_return (MayAsk w) AnyAsk (did (step.Lock mail) answer.Done ∷ own) h tt (okay (λ later j u. ReadSo context later × HasLock mail later)) (read_kept context own (step.Lock mail) answer.Done (λ e. cc (e)) (λ t e. cc (e)) f, last refl),
            locked_known n (did (step.Lock mail) answer.Busy ∷ own) h (read_kept context own (step.Lock mail) answer.Busy (λ e. cc (e)) (λ t e. cc (e)) f),
            meets_end (MayAsk w) AnyAsk (did (step.Lock mail) answer.Gone ∷ own) h (fault.Meddled mail lock_name) (λ later j u. ReadSo context later × HasLock mail later),
          ))

      abbrev Clears : Step → Type 0
      Clears s = (s ≡ step.Unlock p → ⊥) × NoCommit path s × (s ≡ step.Unlock mail → ⊥)

      cleared_known : (own : List Deed) (h : Hand) → ReadSo context own × HasLock mail own → M own h (temps_cleared mail) (okay (λ later j u. ReadSo context later × HasLock mail later))
      cleared_known own h f =
          meets_quietly (MayAsk w) AnyAsk Clears (λ later. ReadSo context later × HasLock mail later) (λ before s a may c g. (read_kept context before s a c.0 c.1 g.0, still c.2 g.1)) (λ before s may c g. tt) own h (temps_cleared mail)
          (asks_temps_cleared Clears mail ((λ e. cc (e)), (λ t e. cc (e)), (λ e. cc (e))) (λ temp is. ((λ e. cc (e)), (λ t e. cc (e)), (λ e. cc (e))))) f

      abbrev Entries : Outcome (List NamedValue)
      Entries later j es = (old : List ℕ) × (es ≡ entries_in old) × Reads old later

      read_known : (own : List Deed) (h : Hand) → ReadSo context own × HasLock mail own → M own h (context_read mail) (okay Entries)
      unfolding context_read
      read_known own h f =
          meets_read (MayAsk w) AnyAsk own h of_stop (okay Entries) mail context_name LIMIT_BYTES entries_by
          (λ may. (
            tt,
            (λ bytes. meets_return (MayAsk w) AnyAsk (did (step.Read mail context_name LIMIT_BYTES) (answer.Content bytes) ∷ own) h (entries_in bytes) (okay Entries)
                (bytes, refl, (read_kept context own (step.Read mail context_name LIMIT_BYTES) (answer.Content bytes) (λ e. cc (e)) (λ t e. cc (e)) f.0, commits.found (LIMIT_BYTES, refl) f.1))),
            (λ l. meets_end (MayAsk w) AnyAsk (did (step.Read mail context_name LIMIT_BYTES) (answer.Long l) ∷ own) h (fault.TooLarge l) Entries),
            meets_return (MayAsk w) AnyAsk (did (step.Read mail context_name LIMIT_BYTES) answer.Gone ∷ own) h [] (okay Entries)
                ([], sym no_entries, (read_kept context own (step.Read mail context_name LIMIT_BYTES) answer.Gone (λ e. cc (e)) (λ t e. cc (e)) f.0, commits.missing refl f.1)),
          ))

      known_known : (own : List Deed) (h : Hand) (es : List NamedValue) (text : List ℕ) → es ≡ entries_in text → Replaced text own → M own h (known es) (okay After)
      unfolding Meets known
      known_known own h es text is f = (record { context = text; hand = ap (λ z. Some z) is; read = f.0 }, f.1)

      abbrev Leaves : Step → Type 0
      Leaves s = (s ≡ step.Unlock p → ⊥) × NoCommit path s

      free_known : (own : List Deed) (h : Hand) (es : List NamedValue) (text : List ℕ) → es ≡ entries_in text → Replaced text own → M own h (let_go mail >>= (λ free. known es)) (okay After)
      free_known own h es text is f =
          meets_then (MayAsk w) AnyAsk own h (let_go mail) (λ free. known es) (λ later j u. Replaced text later) After
          (meets_quietly (MayAsk w) AnyAsk Leaves (Replaced text) (λ before s a may c g. (read_kept text before s a c.0 c.1 g.0, outside_kept m before s a c.0 c.1 g.1)) (λ before s may c g. tt) own h (let_go mail) (asks_let_go Leaves mail ((λ e. cc (e)), (λ t e. cc (e)))) f)
          (λ later j u g. known_known later j es text is g)

      writing : (own : List Deed) (h : Hand) (es : List NamedValue) (old : List ℕ) → es ≡ entries_in old → Reads old own → M own h (context_replaced w.run mail (printed (changed cs es)) >>= (λ new. let_go mail >>= (λ free. known (changed cs es)))) (okay After)
      writing own h es old is f =
          meets_then (MayAsk w) AnyAsk own h (context_replaced w.run mail (printed (changed cs es))) (λ new. let_go mail >>= (λ free. known (changed cs es))) (λ later j u. Replaced (printed (changed cs es)) later) After
          (replaced_context own h old (printed (changed cs es)) (ap (λ z. printed (changed cs z)) is) f)
          (λ later j u g. free_known later j (changed cs es) (printed (changed cs es)) (subst (λ z. changed cs z ≡ entries_in (printed (changed cs z))) (sym is) (sym (text_back cs old ok))) g)

      made_known : (own : List Deed) (h : Hand) → ReadSo context own
          → M own h (locked mail TRIES >>= (λ held. temps_cleared mail >>= (λ clear. context_read mail >>= (λ es. context_replaced w.run mail (printed (changed cs es)) >>= (λ new. let_go mail >>= (λ free. known (changed cs es))))))) (okay After)
      made_known own h f =
          meets_then (MayAsk w) AnyAsk own h (locked mail TRIES) (λ held. temps_cleared mail >>= (λ clear. context_read mail >>= (λ es. context_replaced w.run mail (printed (changed cs es)) >>= (λ new. let_go mail >>= (λ free. known (changed cs es)))))) (λ later j u. ReadSo context later × HasLock mail later) After
          (locked_known TRIES own h f)
          (λ later j u g.
          meets_then (MayAsk w) AnyAsk later j (temps_cleared mail) (λ clear. context_read mail >>= (λ es. context_replaced w.run mail (printed (changed cs es)) >>= (λ new. let_go mail >>= (λ free. known (changed cs es))))) (λ last i v. ReadSo context last × HasLock mail last) After (cleared_known later j g)
          (λ last i v k.
          meets_then (MayAsk w) AnyAsk last i (context_read mail) (λ es. context_replaced w.run mail (printed (changed cs es)) >>= (λ new. let_go mail >>= (λ free. known (changed cs es)))) Entries After (read_known last i k)
          (λ end l es z. writing end l es z.0 z.1 z.2)))

      committed_known : (own : List Deed) (h : Hand) → ReadSo context own → M own h (committed w.run mail cs) (okay After)
      unfolding committed
      committed_known own h f =
          meets_make (MayAsk w) AnyAsk own h of_stop (okay After) mail _
          (λ may. (
            tt,
            made_known (did (step.MakeFolder mail) answer.Done ∷ own) h (read_kept context own (step.MakeFolder mail) answer.Done (λ e. cc (e)) (λ t e. cc (e)) f),
            made_known (did (step.MakeFolder mail) answer.Exists ∷ own) h (read_kept context own (step.MakeFolder mail) answer.Exists (λ e. cc (e)) (λ t e. cc (e)) f),
          ))

      commit_known : (own : List Deed) (h : Hand) → h.context ≡ Some (entries_in context) → ReadSo context own → M own h (commit_context w.run mail cs) (okay After)
      unfolding Meets commit_context
      commit_known own h hand f = go (settled cs h.context) refl
        where
          go : (b : Bool) → settled cs h.context ≡ b → M own h (commit_by w.run mail cs b) (okay After)
          go true e = meets_return (MayAsk w) AnyAsk {E = PlanFault} own h tt (okay After) (record { context = context; hand = hand; read = f }, settled_outside own (subst (λ c. settled cs c ≡ true) hand e) f.1)
          go false e = committed_known own h f

    entries_known : (own : List Deed) (h : Hand) → HandKnows own h → M own h (entries_committed w.run mail (suffix folder) kept) (okay After)
    unfolding Meets entries_committed
    entries_known own h f = subst (λ c. M own h (commit_context w.run mail (changes_to (suffix folder) kept (entries_seen c))) (okay After)) (sym f.hand) (commit_known f.context own h f.hand f.read)

    abbrev Told : Outcome Unit
    Told later j u = IsBase w.run p sequences_name (text_of m) later × (HandKnows later j × FreesOutside m later)

    told_known : (own : List Deed) (h : Hand) → HandKnows own h → M own h (told_committed w.run p mail (suffix folder) (text_of m) kept) (okay Told)
    unfolding told_committed
    told_known own h f =
        meets_then (MayAsk w) AnyAsk own h (sequences_replaced w.run p (text_of m)) (λ done. entries_committed w.run mail (suffix folder) kept) (Written (text_of m)) Told (text_known (text_of m) own h f)
        (λ later j u g.
        meets_keeping (MayAsk w) AnyAsk (LeavesText p) (IsBase w.run p sequences_name (text_of m)) (λ before s a may leaves b. base_kept w.run p sequences_name (text_of m) before s a leaves.1 b) later j (entries_committed w.run mail (suffix folder) kept) After
        (entries_leave w.run p path (suffix folder) kept (λ e. cc (e))) g.1 (entries_known later j g.0))

  -- once sequences were committed in place of others that were known so, they are known so
  pub changed_known : (old_ new : Marked) → AreSequences old_.users → AreSequences new.users → IfSome old_.cur IsMsgNum → IfSome new.cur IsMsgNum → (own : List Deed) (h : Hand) → KnowsMarks old_ own h
      → M own h (changed_sequences w.run p mail folder old_ new) (okay (λ later j u. KnowsMarks new later j))
  unfolding changed_sequences
  changed_known old_ new old_valid valid old_cur cur own h f = go (same_told folder old_ new) refl
    where
      Ends : Outcome Unit
      Ends later j u = KnowsMarks new later j

      go : (b : Bool) → same_told folder old_ new ≡ b → M own h (committed_unless b w.run p mail folder new) (okay Ends)
      go true e = meets_return (MayAsk w) AnyAsk {E = PlanFault} own h tt (okay Ends) (subst (λ z. KnowsMarks z own h) (told_same folder old_ new old_valid valid old_cur cur e) f)
      go false e =
          meets_okay (MayAsk w) AnyAsk own h (told_committed w.run p mail (suffix folder) (text_of new) (private_entries (suffix folder) new.users)) (Told new valid cur) Ends
          (λ later j u g. record { hand = g.1.0; text = text_of new; base = g.0; marks = λ sequence n says_so. text_marks new valid cur sequence n says_so; frees = g.1.1 }) (told_known new valid cur own h f.hand)
