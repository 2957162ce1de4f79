-- How the plan ends by which a folder is begun, and what shows it.
use Rattle.std.proofs.Common.{◌≡◌, ◌≢◌, ◌<◌, ◌^◌, ◌∷◌, [], ℕ, Bool, true, false, List, Result, Ok, Err, inl, inr, refl, sym, ◌∙◌, ap, subst, bytes_eq}
use Rattle.std.specs.Prelude.{decimal, if◌then◌else◌}
use Rattle.mh_base.specs.Entries.{entry_text, kind_of}
use Rattle.mh_base.specs.declared.entry.Entry.TheVariants.{Sequences}
use Rattle.mh_profile.specs.Reading.{entries_in}
use Rattle.mh_profile.specs.declared.named_value.NamedValue.{NamedValue}
use Rattle.mh_sequences.specs.Runs.{has}
use Rattle.mh_sequences.specs.Sequences.{Marked}
use Rattle.mh_sequences.specs.declared.run.Run.{Run}
use Rattle.folder_files.specs.Deeds.{Deed, Once, WasDone, did, last, now, on, still}
use Rattle.folder_files.specs.Named.{is_temp}
use Rattle.folder_files.specs.Steps.{IsAscending, has_text}
use Rattle.folder_files.specs.declared.place.Place.{Place}
use Rattle.folder_files.specs.declared.place.Place.TheVariants.{Folder, Mail}
use Rattle.folder_files.specs.declared.step.Answer.{Answer}
use Rattle.folder_files.specs.declared.step.Answer.TheVariants as answer
use Rattle.folder_files.specs.declared.step.Step.TheVariants as step
use Rattle.file_plans.specs.Plan.{Hand, Return, ◌>>=◌}
use Rattle.file_plans.proofs.Clearing.{listed_once, rest_ascending}
use Rattle.file_plans.proofs.Framing.{AnyStep, asks_any}
use Rattle.step_plans.specs.ContextCommit.{LIMIT_BYTES, context_name, context_read, entries_by}
use Rattle.step_plans.specs.Endings.{HasMet, WasListed, temp_gone}
use Rattle.step_plans.specs.Hands.{knowing, known}
use Rattle.step_plans.specs.Locking.{cleared, cleared_one, lock_name, removed}
use Rattle.step_plans.specs.PlanFaults.{Planned, of_stop}
use Rattle.step_plans.specs.Replacing.{held_to, synced}
use Rattle.step_plans.specs.declared.fault.PlanFault.{PlanFault}
use Rattle.step_plans.specs.declared.fault.PlanFault.TheVariants as fault
use Rattle.step_plans.proofs.Coming.{Comes, comes_framed, comes_lock, comes_make, comes_more, comes_on, comes_read, comes_sync_folder, comes_then, comes_to, comes_unlink}
use Rattle.step_plans.proofs.Committed.{no_entries}
use Rattle.step_plans.proofs.Going.{Outcome}
use Rattle.step_plans.proofs.Ending.{has_first, has_later, true_false}
use Rattle.held_messages.specs.Settle.{Settled, put_back}
use Rattle.sequence_commits.specs.Committing.{cut_committed}
use Rattle.sequence_commits.specs.Cutting.{cut_to}
use Rattle.sequence_commits.specs.Reading.{sequences_in}
use Rattle.sequence_commits.specs.RunsOfAll.{runs_of_all}
use Rattle.sequence_commits.proofs.RunTests.{all_has, all_runs, none_outside}
use Rattle.opening_plans.specs.Endings.{Answering, IsMetIn, PutsBackups, PutsNone, made_gone, plainly}
use Rattle.opening_plans.specs.Existing.{exists_in, numbers_settled}
use Rattle.opening_plans.specs.Opening.{Opened, begun, folder_locked, locked_begun, locked_by, mail_made, marks_cut, marks_read, opened_of, sequences_read, settled_read, text_by}
use Rattle.opening_plans.specs.Reads.{HaveRead, HaveSeen, TellsText}
use Rattle.opening_plans.proofs.CleanRuns.{Clean, clean_more}
use Rattle.opening_plans.proofs.ExistingNumbers.{in_range_or}
use Rattle.opening_plans.proofs.NamesKept.{backups_kept, other_unlinked, putting}
use Rattle.opening_plans.proofs.SequencesEnd.{Left, changed_comes}
use Rattle.opening_plans.proofs.SettledEnds.{HasMetAll, IsSettled, PutsBack, Shown, put_back_comes}

module _ (run : ℕ) (few : run < 2 ^ 128) (path folder : List ℕ) (Answers : Answering) where
  abbrev p : Place
  p = Folder path folder

  abbrev mail : Place
  mail = Mail path

  abbrev So : {A : Type 0} → Outcome A → Outcome (Result A PlanFault)
  So P later j r = Shown run path folder Answers P later j r

  at : {A : Type 0} (own now_ : List Deed) (j i : Hand) (q : Planned A) (Q : Outcome (Result A PlanFault)) → own ≡ now_ → j ≡ i → Comes now_ i q Q → Comes own j q Q
  at own now_ j i q Q e f g = rw (e, f) g

  abbrev pub locked_deeds : List Deed → List Deed
  locked_deeds own = did (step.Lock p) answer.Done ∷ own

  -- the folder's lock
  pub lock_comes : (own : List Deed) (h : Hand) → Comes own h (folder_locked p) (So (λ later j u. (later ≡ locked_deeds own) × (j ≡ h)))
  unfolding folder_locked
  lock_comes own h =
      comes_lock own h of_stop (So Next) p (locked_by p) (comes_to _ h (Ok tt) (So Next) (refl, refl)) (comes_to _ h (Err (fault.Locked p)) (So Next) (inl (refl, record { older = own; is = refl })))
      (comes_to _ h (Err (fault.Absent p)) (So Next) (refl, (own, inl refl)))
    where
      Next : Outcome Unit
      Next later j u = (later ≡ locked_deeds own) × (j ≡ h)

  -- the mail directory
  abbrev pub made_deeds : Answer → List Deed → List Deed
  made_deeds a own = did (step.SyncFolder mail) answer.Done ∷ (did (step.MakeFolder mail) a ∷ own)

  mail_comes : (own : List Deed) (h : Hand) → PutsNone mail own → Comes own h (mail_made mail) (So (λ later j u. (a : Answer) × (a ≢ answer.Failed) × (later ≡ made_deeds a own) × (j ≡ h)))
  unfolding mail_made synced
  mail_comes own h none = comes_make own h of_stop (So Next) mail _ (safe answer.Done (λ e. cc (e))) (safe answer.Exists (λ e. cc (e)))
    where
      Next : Outcome Unit
      Next later j u = (a : Answer) × (a ≢ answer.Failed) × (later ≡ made_deeds a own) × (j ≡ h)

      safe : (a : Answer) → a ≢ answer.Failed → Comes (did (step.MakeFolder mail) a ∷ own) h (synced mail lock_name) (So Next)
      safe a live =
          comes_sync_folder _ h of_stop (So Next) mail (held_to mail lock_name) (comes_to _ h (Ok tt) (So Next) (a, live, refl, refl)) (comes_to _ h (Err (fault.Meddled mail lock_name)) (So Next) (made_gone refl none))

  -- what lasts: the folder's lock was taken, and it was listed so
  record Held (names : List (List ℕ)) (own : List Deed) : Type 0 where
    lock : WasDone (step.Lock p) own
    listed : Once (λ d older. d ≡ did (step.List p) (answer.Names names)) own

  held_more : (names : List (List ℕ)) (d : Deed) (own : List Deed) → Held names own → Held names (d ∷ own)
  held_more names d own f = record { lock = on f.lock; listed = on f.listed }

  -- the names that are left were listed; and of them no own step has taken a temporary one away since
  record Uncleared (names ns : List (List ℕ)) (own : List Deed) (h : Hand) : Type 0 where
    held : Held names own
    left : Left run few path folder Answers own h
    among : (x : List ℕ) → has_text x ns ≡ true → has_text x names ≡ true
    sorted : IsAscending names → IsAscending ns
    since : IsAscending names → (x : List ℕ) → has_text x ns ≡ true → is_temp (kind_of x) ≡ true → HasMet p x own

  left_rest : (names : List (List ℕ)) (n : List ℕ) (ns : List (List ℕ)) (own : List Deed) (h : Hand) → Uncleared names (n ∷ ns) own h → Uncleared names ns own h
  left_rest names n ns own h f = record {
    held = f.held;
    left = f.left;
    among = λ x e. f.among x (has_later (bytes_eq n x) (has_text x ns) e);
    sorted = λ s. rest_ascending n ns (f.sorted s);
    since = λ s x e is. f.since s x (has_later (bytes_eq n x) (has_text x ns) e) is;
  }

  left_unlinked : (names : List (List ℕ)) (n : List ℕ) (ns : List (List ℕ)) (own : List Deed) (h : Hand) → Uncleared names (n ∷ ns) own h → Uncleared names ns (did (step.Unlink p n) answer.Done ∷ own) h
  left_unlinked names n ns own h f = record {
    held = held_more names (did (step.Unlink p n) answer.Done) own f.held;
    left = record { clean = clean_more run own h (step.Unlink p n) answer.Done (λ e. cc (e)) tt f.left.clean; safe = backups_kept p (step.Unlink p n) answer.Done own (λ y w. putting p y (step.Unlink p n) answer.Done w) f.left.safe };
    among = λ x e. f.among x (has_later (bytes_eq n x) (has_text x ns) e);
    sorted = λ s. rest_ascending n ns (f.sorted s);
    since = λ s x e is. still (other_unlinked p n x answer.Done (λ same. true_false (has_text x ns) e (subst (λ z. has_text z ns ≡ false) same (listed_once n ns (f.sorted s))))) (f.since s x (has_later (bytes_eq n x) (has_text x ns) e) is);
  }

  listed_first : (names : List (List ℕ)) (n : List ℕ) (ns : List (List ℕ)) (own : List Deed) (h : Hand) → is_temp (kind_of n) ≡ true → Uncleared names (n ∷ ns) own h → WasListed p n own
  listed_first names n ns own h is f = record { names = names; listing = f.held.listed; among = f.among n (has_first n (has_text n ns)); since = λ s. f.since s n (has_first n (has_text n ns)) is }

  abbrev Clears : List (List ℕ) → Outcome Unit
  Clears names later j u = Held names later × Left run few path folder Answers later j

  removed_comes : (names : List (List ℕ)) (n : List ℕ) (ns : List (List ℕ)) (own : List Deed) (h : Hand) → is_temp (kind_of n) ≡ true → Uncleared names (n ∷ ns) own h → Comes own h (removed p n) (So (λ later j u. Uncleared names ns later j))
  unfolding removed
  removed_comes names n ns own h is f =
      comes_unlink own h of_stop (So (λ later j u. Uncleared names ns later j)) p n (held_to p n) (comes_to _ h (Ok tt) (So (λ later j u. Uncleared names ns later j)) (left_unlinked names n ns own h f))
      (comes_to _ h (Err (fault.Meddled p n)) (So (λ later j u. Uncleared names ns later j)) (plainly (temp_gone (listed_first names n ns own h is f))))

  cleared_comes : (names ns : List (List ℕ)) (own : List Deed) (h : Hand) → Uncleared names ns own h → Comes own h (cleared p ns) (So (Clears names))
  unfolding cleared cleared_one
  cleared_comes names [] own h f = comes_to own h (Ok tt) (So (Clears names)) (f.held, f.left)
  cleared_comes names (n ∷ ns) own h f = go (is_temp (kind_of n)) refl (λ later j g. cleared_comes names ns later j g) (cleared_comes names ns own h (left_rest names n ns own h f))
    where
      go : (b : Bool) → is_temp (kind_of n) ≡ b → ((later : List Deed) (j : Hand) → Uncleared names ns later j → Comes later j (cleared p ns) (So (Clears names))) → Comes own h (cleared p ns) (So (Clears names))
          → Comes own h ((if b then removed p n else Return (Ok tt)) >>= (λ u. cleared p ns)) (So (Clears names))
      go true is rest same =
          comes_then own h (removed p n) (λ u. cleared p ns) (So (λ later j u. Uncleared names ns later j)) (So (Clears names)) (removed_comes names n ns own h is f) (λ later j u g. rest later j g) (λ later j e g. g)
      go false is rest same = comes_on own h tt (λ u. cleared p ns) (So (Clears names)) same

  -- a text is read
  read_left : (q : Place) (x : List ℕ) (a : Answer) (own : List Deed) (h : Hand) → a ≢ answer.Failed → Left run few path folder Answers own h → Left run few path folder Answers (did (step.Read q x LIMIT_BYTES) a ∷ own) h
  read_left q x a own h live f = record { clean = clean_more run own h (step.Read q x LIMIT_BYTES) a live tt f.clean; safe = backups_kept p (step.Read q x LIMIT_BYTES) a own (λ y w. putting p y (step.Read q x LIMIT_BYTES) a w) f.safe }

  abbrev sequences_deed : Answer → Deed
  sequences_deed a = did (step.Read p (entry_text Sequences) LIMIT_BYTES) a

  abbrev context_deed : Answer → Deed
  context_deed a = did (step.Read mail context_name LIMIT_BYTES) a

  abbrev ReadsText : List Deed → Hand → Outcome (List ℕ)
  ReadsText own h later j text = (a : Answer) × (a ≢ answer.Failed) × (later ≡ sequences_deed a ∷ own) × (j ≡ h) × TellsText p (entry_text Sequences) text (sequences_deed a)

  text_comes : (own : List Deed) (h : Hand) → Comes own h (sequences_read p) (So (ReadsText own h))
  unfolding sequences_read
  text_comes own h =
      comes_read own h of_stop (So (ReadsText own h)) p (entry_text Sequences) LIMIT_BYTES text_by
      (λ bytes. comes_to _ h (Ok bytes) (So (ReadsText own h)) (answer.Content bytes, (λ e. cc (e)), refl, refl, inl (LIMIT_BYTES, refl)))
      (λ l. comes_to _ h (Err (fault.TooLarge l)) (So (ReadsText own h)) (inl (own, refl)))
      (comes_to _ h (Ok []) (So (ReadsText own h)) (answer.Gone, (λ e. cc (e)), refl, refl, inr (LIMIT_BYTES, refl, refl)))

  abbrev ReadsEntries : List Deed → Hand → Outcome (List NamedValue)
  ReadsEntries own h later j entries =
      (a : Answer) × (context : List ℕ) × (a ≢ answer.Failed) × (later ≡ context_deed a ∷ own) × (j ≡ h) × TellsText mail context_name context (context_deed a) × (entries ≡ entries_in context)

  entries_comes : (own : List Deed) (h : Hand) → Comes own h (context_read mail) (So (ReadsEntries own h))
  unfolding context_read
  entries_comes own h =
      comes_read own h of_stop (So (ReadsEntries own h)) mail context_name LIMIT_BYTES entries_by
      (λ bytes. comes_to _ h (Ok (entries_in bytes)) (So (ReadsEntries own h)) (answer.Content bytes, bytes, (λ e. cc (e)), refl, refl, inl (LIMIT_BYTES, refl), refl))
      (λ l. comes_to _ h (Err (fault.TooLarge l)) (So (ReadsEntries own h)) (inr (inl (own, refl))))
      (comes_to _ h (Ok []) (So (ReadsEntries own h)) (answer.Gone, [], (λ e. cc (e)), refl, refl, inr (LIMIT_BYTES, refl, refl), sym no_entries))

  known_comes : (own : List Deed) (h : Hand) (entries : List NamedValue) → Comes own h (known entries) (So (λ later j u. (later ≡ own) × (j ≡ knowing entries h)))
  unfolding Comes known
  known_comes own h entries = (refl, refl)

  -- the folder's sequences, as the texts tell them
  record ReadsMarks (names : List (List ℕ)) (later : List Deed) (j : Hand) (m : Marked) : Type 0 where
    held : Held names later
    left : Left run few path folder Answers later j
    text : List ℕ
    context : List ℕ
    read : HaveRead p mail text context later
    is : m ≡ sequences_in text (entries_in context) folder

  abbrev Reads : List (List ℕ) → Outcome Marked
  Reads names later j m = ReadsMarks names later j m

  marks_comes : (names : List (List ℕ)) (own : List Deed) (h : Hand) → Held names own → Left run few path folder Answers own h → Comes own h (marks_read p mail folder) (So (Reads names))
  unfolding marks_read
  marks_comes names own h held left =
      comes_then own h (sequences_read p) (λ text. context_read mail >>= (λ entries. known entries >>= (λ seen. Return (Ok (sequences_in text entries folder))))) (So (ReadsText own h)) (So (Reads names)) (text_comes own h)
      (λ later j text t. at later (sequences_deed t.0 ∷ own) j h _ (So (Reads names)) t.2 t.3 (with_text text t.0 t.1 t.4)) (λ later j e t. t)
    where
      with_text : (text : List ℕ) (a : Answer) → a ≢ answer.Failed → TellsText p (entry_text Sequences) text (sequences_deed a)
          → Comes (sequences_deed a ∷ own) h (context_read mail >>= (λ entries. known entries >>= (λ seen. Return (Ok (sequences_in text entries folder))))) (So (Reads names))
      with_text text a live tells =
          comes_then (sequences_deed a ∷ own) h (context_read mail) (λ entries. known entries >>= (λ seen. Return (Ok (sequences_in text entries folder)))) (So (ReadsEntries (sequences_deed a ∷ own) h)) (So (Reads names))
          (entries_comes (sequences_deed a ∷ own) h) (λ later j entries r. at later (context_deed r.0 ∷ (sequences_deed a ∷ own)) j h _ (So (Reads names)) r.3 r.4 (with_entries r.1 entries r.0 r.2 r.5 r.6)) (λ later j e r. r)
        where
          with_entries : (context : List ℕ) (entries : List NamedValue) (b : Answer) → b ≢ answer.Failed → TellsText mail context_name context (context_deed b) → entries ≡ entries_in context
              → Comes (context_deed b ∷ (sequences_deed a ∷ own)) h (known entries >>= (λ seen. Return (Ok (sequences_in text entries folder)))) (So (Reads names))
          with_entries context entries b fine told same =
              comes_then (context_deed b ∷ (sequences_deed a ∷ own)) h (known entries) (λ seen. Return (Ok (sequences_in text entries folder)))
              (So (λ later j u. (later ≡ context_deed b ∷ (sequences_deed a ∷ own)) × (j ≡ knowing entries h))) (So (Reads names)) (known_comes (context_deed b ∷ (sequences_deed a ∷ own)) h entries)
              (λ later j u e. at later (context_deed b ∷ (sequences_deed a ∷ own)) j (knowing entries h) (Return (Ok (sequences_in text entries folder))) (So (Reads names)) e.0 e.1
              (comes_to (context_deed b ∷ (sequences_deed a ∷ own)) (knowing entries h) (Ok (sequences_in text entries folder)) (So (Reads names)) (record {
                held = held_more names (context_deed b) (sequences_deed a ∷ own) (held_more names (sequences_deed a) own held);
                left = record { clean = record { numbered = both.clean.numbered; unfailed = both.clean.unfailed; few = both.clean.few }; safe = both.safe };
                text = text;
                context = context;
                read = now (told, now tells);
                is = ap (λ z. sequences_in text z folder) same;
              })))
              (λ later j e q. q)
            where
              both : Left run few path folder Answers (context_deed b ∷ (sequences_deed a ∷ own)) h
              both = read_left mail context_name b (sequences_deed a ∷ own) h fine (read_left p (entry_text Sequences) a own h live left)

  -- what is left where a folder was begun; and at some time the run has met the name of each number that it takes to be there
  pub record IsBegunSo (o : Opened) (own : List Deed) (h : Hand) : Type 0 where
    pub left : Left run few path folder Answers own h
    pub met : (n : ℕ) → has o.listing n ≡ true → Once (λ d older. IsMetIn p (decimal n) d) own

  abbrev pub Begins : Outcome Opened
  Begins later j o = IsBegunSo o later j

  abbrev Cuts : List Run → Outcome Opened
  Cuts listing later j o = (o.listing ≡ listing) × Left run few path folder Answers later j

  cut_comes : (own : List Deed) (h : Hand) (s : Settled) (text context : List ℕ) → HaveSeen run p mail (numbers_settled run s) text context own → WasDone (step.Lock p) own → Left run few path folder Answers own h
      → Comes own h (marks_cut run p mail folder s (sequences_in text (entries_in context) folder)) (So (Cuts (numbers_settled run s)))
  unfolding marks_cut
  cut_comes own h s text context seen lock left =
      comes_then own h (cut_committed run p mail folder m listing) (λ cut. Return (Ok (opened_of p folder listing (cut_to listing m) s.ends))) (So (λ later j u. Left run few path folder Answers later j)) (So (Cuts listing))
      (changed_comes run few path folder Answers listing text context (cut_to listing m) (inl refl) m own h seen lock left) (λ later j u f. comes_to later j (Ok (opened_of p folder listing (cut_to listing m) s.ends)) (So (Cuts listing)) (refl, f)) (λ later j e f. f)
    where
      listing : List Run
      listing = numbers_settled run s

      m : Marked
      m = sequences_in text (entries_in context) folder

  read_comes : (own : List Deed) (h : Hand) (s : Settled) → Uncleared s.names s.names own h → Comes own h (settled_read run p mail folder s) (So (Cuts (numbers_settled run s)))
  unfolding settled_read
  read_comes own h s f =
      comes_then own h (cleared p s.names) (λ clear. marks_read p mail folder >>= (λ marked. marks_cut run p mail folder s marked)) (So (Clears s.names)) (So (Cuts (numbers_settled run s))) (cleared_comes s.names s.names own h f)
      (λ mid j u g.
      comes_then mid j (marks_read p mail folder) (λ marked. marks_cut run p mail folder s marked) (So (Reads s.names)) (So (Cuts (numbers_settled run s))) (marks_comes s.names mid j g.0 g.1)
      (λ later k m r. subst (λ z. Comes later k (marks_cut run p mail folder s z) (So (Cuts (numbers_settled run s)))) (sym r.is)
      (cut_comes later k s r.text r.context (record { listed = (s, refl, r.held.listed); read = r.read }) r.held.lock r.left))
      (λ later k e r. r))
      (λ mid j e g. g)

  -- a number of the folder is one of those that were listed, put there or met there
  number_there : (s : Settled) (n : ℕ) → has (numbers_settled run s) n ≡ true → exists_in run s n ≡ true
  unfolding numbers_settled
  number_there s n e = elim (in_range_or n) [
    | inl l ↦ sym (all_has (exists_in run s) n l.0 l.1) ∙ e
    | inr out ↦ true_false (has (runs_of_all (exists_in run s)) n) e (none_outside (runs_of_all (exists_in run s)) n (all_runs (exists_in run s)) out)
  ]

  -- with the numbers
  numbered_comes : (own : List Deed) (h : Hand) (s : Settled) → Uncleared s.names s.names own h → HasMetAll run path folder Answers s.names s.ends own → Comes own h (settled_read run p mail folder s) (So Begins)
  numbered_comes own h s f met =
      comes_more own h (settled_read run p mail folder s) (λ later j r. HasMetAll run path folder Answers s.names s.ends later × So (Cuts (numbers_settled run s)) later j r) (So Begins) go
      (comes_framed AnyStep (HasMetAll run path folder Answers s.names s.ends) (λ now_ t a any q n e. on (q n e)) own h (settled_read run p mail folder s) (So (Cuts (numbers_settled run s))) (asks_any (settled_read run p mail folder s)) met
      (read_comes own h s f))
    where
      go : (later : List Deed) (j : Hand) (r : Result Opened PlanFault) → HasMetAll run path folder Answers s.names s.ends later × So (Cuts (numbers_settled run s)) later j r → So Begins later j r
      go later j (Ok o) q = record { left = q.1.1; met = λ n e. q.0 n (number_there s n (subst (λ z. has z n ≡ true) q.1.0 e)) }
      go later j (Err e) q = q.1

  uncleared : (s : Settled) (own : List Deed) (h : Hand) → IsSettled run path folder Answers s.names own h → Uncleared s.names s.names own h
  uncleared s own h f = record {
    held = record { lock = f.facts.lock; listed = f.facts.listed };
    left = record { clean = f.facts.clean; safe = f.safe };
    among = λ x e. e;
    sorted = λ g. g;
    since = λ g x e is. f.facts.temps x e is;
  }

  -- under the folder's lock, once the mail directory was made safe
  pub settled_comes : (own : List Deed) (h : Hand) (a : Answer) → a ≢ answer.Failed → Clean run own h → Comes (made_deeds a (locked_deeds own)) h (put_back run p >>= (λ s. settled_read run p mail folder s)) (So Begins)
  settled_comes own h a live clean =
      comes_then (made_deeds a (locked_deeds own)) h (put_back run p) (λ s. settled_read run p mail folder s) (So (PutsBack run path folder Answers)) (So Begins)
      (put_back_comes run path folder Answers (made_deeds a (locked_deeds own)) h clean_there (on (on (now refl))) safe_there) (λ later j s f. numbered_comes later j s (uncleared s later j f.0) f.1) (λ later j e f. f)
    where
      safe_there : PutsBackups p (made_deeds a (locked_deeds own))
      safe_there =
          backups_kept p (step.SyncFolder mail) answer.Done (did (step.MakeFolder mail) a ∷ locked_deeds own) (λ y w. putting p y (step.SyncFolder mail) answer.Done w)
          (backups_kept p (step.MakeFolder mail) a (locked_deeds own) (λ y w. putting p y (step.MakeFolder mail) a w) (last (inl refl)))

      clean_there : Clean run (made_deeds a (locked_deeds own)) h
      clean_there =
          clean_more run _ h (step.SyncFolder mail) answer.Done (λ e. cc (e)) tt (clean_more run _ h (step.MakeFolder mail) a live tt (clean_more run own h (step.Lock p) answer.Done (λ e. cc (e)) tt clean))

  -- under the folder's lock
  locked_comes : (own : List Deed) (h : Hand) → Clean run own h → PutsNone mail own → Comes (locked_deeds own) h (locked_begun run p mail folder) (So Begins)
  unfolding locked_begun
  locked_comes own h clean none =
      comes_then (locked_deeds own) h (mail_made mail) (λ made. put_back run p >>= (λ s. settled_read run p mail folder s)) (So (λ later j u. (a : Answer) × (a ≢ answer.Failed) × (later ≡ made_deeds a (locked_deeds own)) × (j ≡ h))) (So Begins)
      (mail_comes (locked_deeds own) h none_yet)
      (λ later j u q. at later (made_deeds q.0 (locked_deeds own)) j h _ (So Begins) q.2 q.3 (settled_comes own h q.0 q.1 clean))
      (λ later j e q. q)
    where
      none_yet : PutsNone mail (locked_deeds own)
      none_yet (now w) = putting mail w.0 (step.Lock p) answer.Done w.1
      none_yet (on z) = none z

  -- a folder is begun, by a run that has put no name into the mail directory: its end, and what shows it
  pub begun_comes : (own : List Deed) (h : Hand) → Clean run own h → PutsNone mail own → Comes own h (begun run p mail folder) (So Begins)
  unfolding begun
  begun_comes own h clean none =
      comes_then own h (folder_locked p) (λ held. locked_begun run p mail folder) (So (λ later j u. (later ≡ locked_deeds own) × (j ≡ h))) (So Begins) (lock_comes own h)
      (λ later j u q. at later (locked_deeds own) j h (locked_begun run p mail folder) (So Begins) q.0 q.1 (locked_comes own h clean none)) (λ later j e q. q)
