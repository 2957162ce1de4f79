-- How a commit of a folder's sequences ends, and what shows it.
use Rattle.std.proofs.Common.{◌≡◌, ◌⊎◌, ◌<◌, ◌^◌, ◌∷◌, ℕ, Bool, true, false, List, Result, Ok, Err, length, nat_lt, inl, inr, refl, sym, ◌∙◌, ap, subst, arith}
use Rattle.std.specs.Prelude.{if◌then◌else◌}
use Rattle.std.proofs.lemmas.Bool.Decides.{Decides-ltb}
use Rattle.mh_base.specs.Entries.{entry_text}
use Rattle.mh_base.specs.declared.entry.Entry.TheVariants.{Sequences, Temp}
use Rattle.mh_base.proofs.EntryKinds.{kind_of-entry_text}
use Rattle.mh_profile.specs.declared.named_value.NamedValue.{NamedValue}
use Rattle.mh_sequences.specs.Printing.{private_entries, text_of}
use Rattle.mh_sequences.specs.Reading.{suffix}
use Rattle.mh_sequences.specs.Sequences.{Marked}
use Rattle.mh_sequences.specs.declared.run.Run.{Run}
use Rattle.folder_files.specs.Careful.{WasMade}
use Rattle.folder_files.specs.Deeds.{Deed, WasDone, did, last}
use Rattle.folder_files.specs.declared.place.Place.{Place}
use Rattle.folder_files.specs.declared.place.Place.TheVariants.{Folder, Mail}
use Rattle.folder_files.specs.declared.step.Answer.{Answer}
use Rattle.folder_files.specs.declared.step.Answer.TheVariants as answer
use Rattle.folder_files.specs.declared.step.Step.{Step}
use Rattle.folder_files.specs.declared.step.Step.TheVariants as step
use Rattle.file_plans.specs.Plan.{Hand, Return, ◌>>=◌}
use Rattle.file_plans.proofs.Framing.{AnyStep}
use Rattle.step_plans.specs.ContextCommit.{LIMIT_BYTES, commit_context}
use Rattle.step_plans.specs.Endings.{IsLongText, IsMeddled, ShowsPlanFault, name_gone, name_taken, sync_gone}
use Rattle.step_plans.specs.Hands.{named, named_by, temp_name, used}
use Rattle.step_plans.specs.Replacing.{created, entered_once, held_to, made_safe, renamed, replaced, synced, written}
use Rattle.step_plans.specs.PlanFaults.{Planned, of_stop}
use Rattle.step_plans.specs.declared.change.ChangeEntry.{ChangeEntry}
use Rattle.step_plans.specs.declared.fault.PlanFault.{PlanFault}
use Rattle.step_plans.specs.declared.fault.PlanFault.TheVariants as fault
use Rattle.step_plans.proofs.Coming.{Comes, comes_create, comes_framed, comes_more, comes_rename, comes_sync_file, comes_sync_folder, comes_then, comes_to}
use Rattle.step_plans.proofs.Ending.{CommitEnds}
use Rattle.step_plans.proofs.Going.{Outcome, all_numbered}
use Rattle.step_plans.proofs.Lasting.{KeptBy}
use Rattle.step_plans.proofs.Pledged.{after_written}
use Rattle.sequence_commits.specs.Committing.{changed_sequences, committed_unless, entries_committed, sequences_replaced, told_committed}
use Rattle.sequence_commits.specs.PrivateChanges.{changes_to}
use Rattle.mh_profile.specs.Reading.{entries_seen}
use Rattle.sequence_commits.specs.Telling.{same_told}
use Rattle.opening_plans.specs.Endings.{Answering, IsMeddledIn, PutsBackups, ShowsInFolder, plainly}
use Rattle.opening_plans.specs.FolderPledge.{told_within}
use Rattle.opening_plans.specs.Reads.{HaveSeen}
use Rattle.opening_plans.proofs.CleanRuns.{Clean, clean_more, commit_clean, never_made}
use Rattle.opening_plans.proofs.FolderPledged.{seen_kept}
use Rattle.opening_plans.proofs.NamesKept.{LeavesNames, context_leaves, met_kept, names_safe_kept}
use Rattle.opening_plans.proofs.SettledEnds.{Shown}

-- the deeds of a text that took a name's place
abbrev pub after_replaced : Place → List ℕ → List ℕ → List ℕ → List Deed → List Deed
after_replaced p temp name bytes own = did (step.SyncFolder p) answer.Done ∷ (did (step.Rename p temp name) answer.Done ∷ after_written p temp bytes own)

module _ (run : ℕ) (few : run < 2 ^ 128) (path folder : List ℕ) (Answers : Answering) where
  abbrev p : Place
  p = Folder path folder

  abbrev mail : Place
  mail = Mail path

  abbrev Shows : PlanFault → List Deed → Type 0
  Shows e own = ShowsInFolder run path folder Answers e own

  abbrev So : {A : Type 0} → Outcome A → Outcome (Result A PlanFault)
  So P later j r = Shown run path folder Answers P later j r

  at : {A : Type 0} (own now_ : List Deed) (j i : Hand) (q : Planned A) (Q : Outcome (Result A PlanFault)) → own ≡ now_ → j ≡ i → Comes now_ i q Q → Comes own j q Q
  at own now_ j i q Q e f g = rw (e, f) g

  below : (n : ℕ) → nat_lt n (2 ^ 64) ≡ true → n < 2 ^ 64
  below n e = (Decides-ltb n (2 ^ 64)).0 e

  -- the run's next name
  abbrev Names : List Deed → Hand → Outcome (List ℕ)
  Names own h later j temp = (later ≡ own) × (j ≡ used h) × (temp ≡ temp_name run h.next) × (h.next < 2 ^ 64)

  named_comes : (own : List Deed) (h : Hand) → Comes own h (named run) (So (Names own h))
  unfolding Comes named
  named_comes own h = go (nat_lt h.next (2 ^ 64)) refl
    where
      go : (b : Bool) → nat_lt h.next (2 ^ 64) ≡ b → Comes own h (named_by run h b) (So (Names own h))
      go true e = (refl, refl, refl, below h.next e)
      go false e = tt

  created_comes : (own : List Deed) (h j : Hand) (temp bytes : List ℕ) → temp ≡ temp_name run h.next → Clean run own h → WasDone (step.Lock p) own
      → Comes own j (created p temp bytes) (So (λ later i u. (later ≡ did (step.Create p temp bytes) answer.Done ∷ own) × (i ≡ j)))
  unfolding created
  created_comes own h j temp bytes is clean lock =
      comes_create own j of_stop (So Next) p temp bytes (entered_once p temp) (comes_to _ j (Ok tt) (So Next) (refl, refl)) (comes_to _ j (Err (fault.Meddled p temp)) (So Next) (plainly (taken answer.Exists (inl refl))))
      (comes_to _ j (Err (fault.Meddled p temp)) (So Next) (plainly (taken answer.Gone (inr refl))))
    where
      Next : Outcome Unit
      Next later i u = (later ≡ did (step.Create p temp bytes) answer.Done ∷ own) × (i ≡ j)

      taken : (a : Answer) → (a ≡ answer.Exists) ⊎ (a ≡ answer.Gone) → IsMeddled run p temp (did (step.Create p temp bytes) a ∷ own)
      taken a e = name_taken h.next is (λ w. never_made run h.next p own clean.few clean.numbered (subst (λ z. WasMade p z own) is w)) lock e

  safe_comes : (own : List Deed) (j : Hand) (temp bytes : List ℕ)
      → Comes (did (step.Create p temp bytes) answer.Done ∷ own) j (made_safe p temp) (So (λ later i u. (later ≡ after_written p temp bytes own) × (i ≡ j)))
  unfolding made_safe
  safe_comes own j temp bytes =
      comes_sync_file _ j of_stop (So Next) p temp (held_to p temp) (comes_to _ j (Ok tt) (So Next) (refl, refl))
      (comes_to _ j (Err (fault.Meddled p temp)) (So Next) (plainly (name_gone (inr (inl refl)) (last (inl (bytes, refl))))))
    where
      Next : Outcome Unit
      Next later i u = (later ≡ after_written p temp bytes own) × (i ≡ j)

  abbrev pub Writes : List ℕ → List Deed → Hand → Outcome (List ℕ)
  Writes bytes own h later j temp = (later ≡ after_written p temp bytes own) × (j ≡ used h) × (temp ≡ temp_name run h.next) × (h.next < 2 ^ 64)

  pub written_comes : (own : List Deed) (h : Hand) (bytes : List ℕ) → Clean run own h → WasDone (step.Lock p) own → Comes own h (written run p bytes) (So (Writes bytes own h))
  unfolding written
  written_comes own h bytes clean lock =
      comes_then own h (named run) (λ temp. created p temp bytes >>= (λ made. made_safe p temp >>= (λ safe. Return (Ok temp)))) (So (Names own h)) (So (Writes bytes own h)) (named_comes own h)
      (λ later j temp n. at later own j j _ (So (Writes bytes own h)) n.0 refl
      (comes_then own j (created p temp bytes) (λ made. made_safe p temp >>= (λ safe. Return (Ok temp))) (So (λ later i u. (later ≡ did (step.Create p temp bytes) answer.Done ∷ own) × (i ≡ j))) (So (Writes bytes own h))
      (created_comes own h j temp bytes n.2 clean lock)
      (λ mid i u m. at mid (did (step.Create p temp bytes) answer.Done ∷ own) i j _ (So (Writes bytes own h)) m.0 m.1
      (comes_then (did (step.Create p temp bytes) answer.Done ∷ own) j (made_safe p temp) (λ safe. Return (Ok temp)) (So (λ later i u. (later ≡ after_written p temp bytes own) × (i ≡ j))) (So (Writes bytes own h)) (safe_comes own j temp bytes)
      (λ end k v s. comes_to end k (Ok temp) (So (Writes bytes own h)) (s.0, s.1 ∙ n.1, n.2, n.3)) (λ end k e s. s)))
      (λ mid i e m. m)))
      (λ later j e n. n)

  -- what was done where a text took a name's place
  abbrev pub Replaces : List ℕ → List ℕ → List Deed → Hand → Outcome Unit
  Replaces name bytes own h later j u = (later ≡ after_replaced p (temp_name run h.next) name bytes own) × (j ≡ used h) × (h.next < 2 ^ 64)

  moved_comes : (own : List Deed) (j : Hand) (temp name bytes : List ℕ) → Comes (after_written p temp bytes own) j (renamed p temp name) (So (λ later i u. (later ≡ did (step.Rename p temp name) answer.Done ∷ after_written p temp bytes own) × (i ≡ j)))
  unfolding renamed
  moved_comes own j temp name bytes =
      comes_rename _ j of_stop (So Next) p temp name (held_to p temp) (comes_to _ j (Ok tt) (So Next) (refl, refl))
      (comes_to _ j (Err (fault.Meddled p temp)) (So Next) (plainly (name_gone (inr (inr (inr (name, refl)))) (met_kept p temp (step.SyncFile p temp) answer.Done (did (step.Create p temp bytes) answer.Done ∷ own) (λ t. t) (last (inl (bytes, refl)))))))
    where
      Next : Outcome Unit
      Next later i u = (later ≡ did (step.Rename p temp name) answer.Done ∷ after_written p temp bytes own) × (i ≡ j)

  made_safe_comes : (own : List Deed) (j : Hand) (temp name : List ℕ) → Comes (did (step.Rename p temp name) answer.Done ∷ own) j (synced p name) (So (λ later i u. (later ≡ did (step.SyncFolder p) answer.Done ∷ (did (step.Rename p temp name) answer.Done ∷ own)) × (i ≡ j)))
  unfolding synced
  made_safe_comes own j temp name = comes_sync_folder _ j of_stop (So Next) p (held_to p name) (comes_to _ j (Ok tt) (So Next) (refl, refl)) (comes_to _ j (Err (fault.Meddled p name)) (So Next) (plainly sync_gone))
    where
      Next : Outcome Unit
      Next later i u = (later ≡ did (step.SyncFolder p) answer.Done ∷ (did (step.Rename p temp name) answer.Done ∷ own)) × (i ≡ j)

  pub replaced_comes : (own : List Deed) (h : Hand) (name bytes : List ℕ) → Clean run own h → WasDone (step.Lock p) own → Comes own h (replaced run p name bytes) (So (Replaces name bytes own h))
  unfolding replaced
  replaced_comes own h name bytes clean lock =
      comes_then own h (written run p bytes) (λ temp. renamed p temp name >>= (λ moved. synced p name)) (So (Writes bytes own h)) (So (Replaces name bytes own h)) (written_comes own h bytes clean lock)
      (λ later j temp n. at later (after_written p temp bytes own) j j _ (So (Replaces name bytes own h)) n.0 refl
      (comes_then (after_written p temp bytes own) j (renamed p temp name) (λ moved. synced p name) (So (λ later i u. (later ≡ did (step.Rename p temp name) answer.Done ∷ after_written p temp bytes own) × (i ≡ j))) (So (Replaces name bytes own h))
      (moved_comes own j temp name bytes)
      (λ mid i u m. at mid (did (step.Rename p temp name) answer.Done ∷ after_written p temp bytes own) i j _ (So (Replaces name bytes own h)) m.0 m.1
      (comes_more (did (step.Rename p temp name) answer.Done ∷ after_written p temp bytes own) j (synced p name) (So (λ end k v. (end ≡ did (step.SyncFolder p) answer.Done ∷ (did (step.Rename p temp name) answer.Done ∷ after_written p temp bytes own)) × (k ≡ j))) (So (Replaces name bytes own h))
      (closing j temp n.1 n.2 n.3) (made_safe_comes (after_written p temp bytes own) j temp name)))
      (λ mid i e m. m)))
      (λ later j e n. n)
    where
      closing : (j : Hand) (temp : List ℕ) → j ≡ used h → temp ≡ temp_name run h.next → h.next < 2 ^ 64 → (end : List Deed) (k : Hand) (r : Result Unit PlanFault)
          → So (λ end k v. (end ≡ did (step.SyncFolder p) answer.Done ∷ (did (step.Rename p temp name) answer.Done ∷ after_written p temp bytes own)) × (k ≡ j)) end k r → So (Replaces name bytes own h) end k r
      closing j temp hand is lt end k (Ok v) s = (s.0 ∙ ap (λ t. after_replaced p t name bytes own) is, s.1 ∙ hand, lt)
      closing j temp hand is lt end k (Err e) s = s

  -- the run is clean after it
  pub written_clean : (own : List Deed) (h : Hand) (bytes : List ℕ) → h.next < 2 ^ 64 → Clean run own h → Clean run (after_written p (temp_name run h.next) bytes own) (used h)
  written_clean own h bytes lt c =
      clean_more run _ (used h) (step.SyncFile p (temp_name run h.next)) answer.Done (λ e. cc (e)) tt
      (clean_more run own (used h) (step.Create p (temp_name run h.next) bytes) answer.Done (λ e. cc (e)) (h.next, kind_of-entry_text (Temp run h.next) (few, lt), omega arith) raised)
    where
      raised : Clean run own (used h)
      raised = record { numbered = all_numbered run h.next (used h).next own (omega arith) c.numbered; unfailed = c.unfailed; few = omega (arith, lt) }

  replaced_clean : (own : List Deed) (h : Hand) (name bytes : List ℕ) → h.next < 2 ^ 64 → Clean run own h → Clean run (after_replaced p (temp_name run h.next) name bytes own) (used h)
  replaced_clean own h name bytes lt c =
      clean_more run _ (used h) (step.SyncFolder p) answer.Done (λ e. cc (e)) tt
      (clean_more run _ (used h) (step.Rename p (temp_name run h.next) name) answer.Done (λ e. cc (e)) tt (written_clean own h bytes lt c))

  -- what shows the fault of a commit of the context shows it here
  fault_shows : (cs : List ChangeEntry) (h : Hand) (later : List Deed) → ((l : ℕ) → IsLongText mail cs l later → Shows (fault.TooLarge l) later) → (e : PlanFault) → ShowsPlanFault run mail cs h e later → Shows e later
  fault_shows cs h later long fault.Faulted f = f
  fault_shows cs h later long (fault.Locked q) f = inr f
  fault_shows cs h later long (fault.Meddled q x) f = subst (λ z. IsMeddledIn run z x later) (sym f.0) (plainly f.1)
  fault_shows cs h later long fault.Full f = f
  fault_shows cs h later long (fault.Absent q) f = absurd f
  fault_shows cs h later long (fault.TooLarge l) (inl f) = inr (inl f)
  fault_shows cs h later long (fault.TooLarge l) (inr f) = long l f
  fault_shows cs h later long fault.Memory f = tt

  -- what is left of the run and of the folder's names
  pub record Left (own : List Deed) (h : Hand) : Type 0 where
    pub clean : Clean run own h
    pub safe : PutsBackups p own

  abbrev pub Leaves : {A : Type 0} → Outcome A
  Leaves later j a = Left later j

  -- a commit of the context, beside facts that last
  pub commit_shows : (F : List Deed → Type 0) → KeptBy AnyStep F → (cs : List ChangeEntry) → ((l : ℕ) (later : List Deed) → F later → IsLongText mail cs l later → Shows (fault.TooLarge l) later)
      → (own : List Deed) (h : Hand) → F own → Left own h → Comes own h (commit_context run mail cs) (So Leaves)
  commit_shows F keeps cs long own h f left =
      comes_more own h (commit_context run mail cs) (λ later j r. (F later × PutsBackups p later) × (Clean run later j × CommitEnds run mail cs h later j r)) (So Leaves) go
      (comes_framed (LeavesNames p) (λ later. F later × PutsBackups p later) (λ later s a leaves g. (keeps later s a tt g.0, names_safe_kept p later s a leaves g.1)) own h (commit_context run mail cs)
      (λ later j r. Clean run later j × CommitEnds run mail cs h later j r) (context_leaves run path folder cs) (f, left.safe) (commit_clean run few path cs own h left.clean))
    where
      go : (later : List Deed) (j : Hand) (r : Result Unit PlanFault) → (F later × PutsBackups p later) × (Clean run later j × CommitEnds run mail cs h later j r) → So Leaves later j r
      go later j (Ok u) q = record { clean = q.1.0; safe = q.0.1 }
      go later j (Err e) q = fault_shows cs h later (λ l is. long l later q.0.0 is) e q.1.1

  -- new sequences, which are those that were read, or what the command makes of them
  module _ (listing : List Run) (text context : List ℕ) (new : Marked) (made : (new ≡ told_within listing text context folder) ⊎ Answers.makes listing (told_within listing text context folder) new) where
    abbrev Seen : List Deed → Type 0
    Seen own = HaveSeen run p mail listing text context own

    abbrev ending : List ℕ
    ending = suffix folder

    abbrev kept : List NamedValue
    kept = private_entries ending new.users

    long_entries : (entries : List NamedValue) (l : ℕ) (later : List Deed) → Seen later → IsLongText mail (changes_to ending kept entries) l later → Shows (fault.TooLarge l) later
    long_entries entries l later seen is = inr (inr (inl (record { listing = listing; text = text; context = context; seen = seen; new = new; made = made; long = inr (entries, is) })))

    entries_comes : (own : List Deed) (h : Hand) → Seen own → Left own h → Comes own h (entries_committed run mail ending kept) (So Leaves)
    unfolding Comes entries_committed
    entries_comes own h seen left = commit_shows Seen (seen_kept run p mail listing text context) (changes_to ending kept (entries_seen h.context)) (long_entries (entries_seen h.context)) own h seen left

    abbrev Texts : Outcome Unit
    Texts later j u = Seen later × Left later j

    text_comes : (own : List Deed) (h : Hand) → Seen own → WasDone (step.Lock p) own → Left own h → Comes own h (sequences_replaced run p (text_of new)) (So Texts)
    unfolding sequences_replaced
    text_comes own h seen lock left = go (nat_lt LIMIT_BYTES (length (text_of new))) refl
      where
        written_so : (later : List Deed) (j : Hand) (r : Result Unit PlanFault) → So (Replaces (entry_text Sequences) (text_of new) own h) later j r → So Texts later j r
        written_so later j (Ok u) q =
            subst (λ z. Seen z × Left z j) (sym q.0)
            (subst (λ i. Seen (after_replaced p (temp_name run h.next) (entry_text Sequences) (text_of new) own) × Left (after_replaced p (temp_name run h.next) (entry_text Sequences) (text_of new) own) i) (sym q.1) (
              any (step.SyncFolder p) (any (step.Rename p (temp_name run h.next) (entry_text Sequences)) (any (step.SyncFile p (temp_name run h.next)) (any (step.Create p (temp_name run h.next) (text_of new)) seen))),
              record { clean = replaced_clean own h (entry_text Sequences) (text_of new) q.2 left.clean; safe = last (inr refl) },
            ))
          where
            any : {now_ : List Deed} (s : Step) → Seen now_ → Seen (did s answer.Done ∷ now_)
            any {now_ = now_} s f = seen_kept run p mail listing text context now_ s answer.Done tt f
        written_so later j (Err e) q = q

        go : (b : Bool) → nat_lt LIMIT_BYTES (length (text_of new)) ≡ b → Comes own h (if b then Return (Err (fault.TooLarge (length (text_of new)))) else replaced run p (entry_text Sequences) (text_of new)) (So Texts)
        go true e =
            comes_to own h (Err (fault.TooLarge (length (text_of new)))) (So Texts)
            (inr (inr (inl (record { listing = listing; text = text; context = context; seen = seen; new = new; made = made; long = inl (refl, e) }))))
        go false e =
            comes_more own h (replaced run p (entry_text Sequences) (text_of new)) (So (Replaces (entry_text Sequences) (text_of new) own h)) (So Texts) written_so
            (replaced_comes own h (entry_text Sequences) (text_of new) left.clean lock)

    told_comes : (own : List Deed) (h : Hand) → Seen own → WasDone (step.Lock p) own → Left own h → Comes own h (told_committed run p mail ending (text_of new) kept) (So Leaves)
    unfolding told_committed
    told_comes own h seen lock left =
        comes_then own h (sequences_replaced run p (text_of new)) (λ written. entries_committed run mail ending kept) (So Texts) (So Leaves) (text_comes own h seen lock left)
        (λ later j u q. entries_comes later j q.0 q.1) (λ later j e q. q)

    -- so a commit of these in place of others ends
    pub changed_comes : (old : Marked) (own : List Deed) (h : Hand) → Seen own → WasDone (step.Lock p) own → Left own h → Comes own h (changed_sequences run p mail folder old new) (So Leaves)
    unfolding changed_sequences
    changed_comes old own h seen lock left = go (same_told folder old new)
      where
        go : (b : Bool) → Comes own h (committed_unless b run p mail folder new) (So Leaves)
        go true = comes_to own h (Ok tt) (So Leaves) left
        go false = told_comes own h seen lock left
