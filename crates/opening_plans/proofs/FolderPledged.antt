-- A folder is begun as its command pledges.
use Rattle.std.proofs.Common.{◌≡◌, inl, inr, ◌<◌, ◌^◌, ◌∷◌, [], ℕ, true, List, Ok, refl, sym, ap, subst, arith}
use Rattle.mh_base.specs.declared.entry.Entry.TheVariants.{Sequences}
use Rattle.mh_base.proofs.EntryKinds.{kind_of-entry_text}
use Rattle.mh_profile.specs.Reading.{entries_in}
use Rattle.mh_profile.specs.declared.named_value.NamedValue.{NamedValue}
use Rattle.mh_sequences.specs.Printing.{private_entries, text_of}
use Rattle.mh_sequences.specs.Reading.{suffix}
use Rattle.mh_sequences.specs.Runs.{has}
use Rattle.mh_sequences.specs.Sequences.{Marked}
use Rattle.mh_sequences.specs.declared.run.Run.{Run}
use Rattle.folder_files.specs.Careful.{HasLock, Makes, makes}
use Rattle.folder_files.specs.Deeds.{Deed, Once, did, now, on, last, still}
use Rattle.folder_files.specs.declared.place.Place.{Place}
use Rattle.folder_files.specs.declared.place.Place.TheVariants.{Folder, Mail}
use Rattle.folder_files.specs.declared.step.Step.TheVariants as step
use Rattle.folder_files.specs.declared.step.Answer.{Answer}
use Rattle.folder_files.specs.declared.step.Answer.TheVariants as answer
use Rattle.file_plans.specs.Plan.{Hand, Return, ◌>>=◌}
use Rattle.file_plans.specs.StaysCareful.{careful}
use Rattle.file_plans.proofs.Framing.{AnyStep}
use Rattle.step_plans.specs.Commits.{IsBase, found, missing}
use Rattle.step_plans.specs.ContextCommit.{LIMIT_BYTES, context_name, context_read, entries_by}
use Rattle.step_plans.specs.Hands.{known}
use Rattle.step_plans.specs.Locking.{cleared, lock_name}
use Rattle.step_plans.specs.Pledges.{Pledge, IsMarked}
use Rattle.step_plans.specs.PlanFaults.{of_stop}
use Rattle.step_plans.specs.Replacing.{synced}
use Rattle.step_plans.specs.Settled.{AreSettled}
use Rattle.step_plans.specs.declared.fault.PlanFault.TheVariants as fault
use Rattle.step_plans.proofs.Committed.{no_entries}
use Rattle.step_plans.proofs.Facts.{base_kept, once_kept, settled_kept}
use Rattle.step_plans.proofs.Going.{Outcome, okay, okay_more, Goes, goes_more, goes_then}
use Rattle.step_plans.proofs.Lasting.{KeptBy, goes_lasting}
use Rattle.step_plans.proofs.Pledged.{Held, IsPledged, Of, after_written, cleared_goes, synced_goes}
use Rattle.step_plans.proofs.Stepping.{goes_end, goes_list, goes_lock, goes_make, goes_on, goes_read, goes_return, goes_stop}
use Rattle.step_plans.proofs.Written.{Adds, Serves, goes_at}
use Rattle.held_messages.specs.HeldPairs.{held_pairs}
use Rattle.held_messages.specs.Highest.{highest}
use Rattle.held_messages.specs.Settle.{Settled, names_by, put_back, settle, settled_of}
use Rattle.held_messages.proofs.GivingBack.{Settles, settle_goes}
use Rattle.held_messages.proofs.ListedPairs.{are_pairs, pairs_listed}
use Rattle.held_messages.proofs.Telling.{highest_small}
use Rattle.sequence_marks.specs.SequenceMarks.{says_public}
use Rattle.sequence_commits.specs.Committing.{cut_committed}
use Rattle.sequence_commits.specs.Cutting.{cut_to}
use Rattle.sequence_commits.specs.PrivateChanges.{changes_to}
use Rattle.sequence_commits.specs.Reading.{sequences_in}
use Rattle.sequence_commits.proofs.SequencesPledged.{CommittedOrSame, MayReplace, changed_goes, sequences_name}
use Rattle.opening_plans.specs.Existing.{numbers_settled}
use Rattle.opening_plans.specs.Opening.{Opened, begun, folder_locked, locked_begun, locked_by, mail_made, marks_cut, marks_read, opened_of, sequences_read, settled_read, text_by}
use Rattle.opening_plans.specs.FolderPledge.{told_within}
use Rattle.opening_plans.specs.Reads.{HaveRead, HaveSeen, TellsText}
use Rattle.opening_plans.proofs.BaseMarks.{cut_marks, same_marks}

-- what was seen once stays so
pub seen_kept : (run : ℕ) (p mail : Place) (listing : List Run) (text context : List ℕ) → KeptBy AnyStep (HaveSeen run p mail listing text context)
seen_kept run p mail listing text context own s a leaves f = record { listed = (f.listed.0, f.listed.1, on f.listed.2); read = on f.read }

-- the pledge lets the folder of this mail directory be begun
pub record Begins (w : Pledge) (path folder : List ℕ) : Type 0 where
  pub serves : Serves w (Folder path folder)
  pub mail : Serves w (Mail path)
  pub settles : Settles w (Folder path folder)
  pub cut : (own : List Deed) (text context : List ℕ) (listing : List Run) (old : List ℕ) → HaveSeen w.run (Folder path folder) (Mail path) listing text context own
      → w.may_mark own (Folder path folder) sequences_name old (text_of (told_within listing text context folder))
  pub moves : (own : List Deed) (temp : List ℕ) → HasLock (Folder path folder) own → IsMarked w (Folder path folder) temp sequences_name own → w.may_step own (step.Rename (Folder path folder) temp sequences_name)
  pub entries : (text context : List ℕ) (listing : List Run) (seen : List NamedValue)
      → IsPledged w (Mail path) (changes_to (suffix folder) (private_entries (suffix folder) (told_within listing text context folder).users) seen) AnyStep (HaveSeen w.run (Folder path folder) (Mail path) listing text context)

-- after it: what was settled of commits stays so, and the folder's lock is had; its sequences are those that were read, cut, and some text is
-- the base of the next commit, which marks only numbers of messages
pub record HasBegun (w : Pledge) (own : List Deed) (path folder : List ℕ) (later : List Deed) (o : Opened) : Type 0 where
  pub held : Held own (Folder path folder) later
  pub place : o.place ≡ Folder path folder
  pub name : o.folder ≡ folder
  pub text : List ℕ
  pub context : List ℕ
  pub seen : HaveSeen w.run (Folder path folder) (Mail path) o.listing text context later
  pub sequences : o.sequences ≡ told_within o.listing text context folder
  pub base : (old : List ℕ) × IsBase w.run (Folder path folder) sequences_name old later
  pub marks : (sequence : List ℕ) (n : ℕ) → says_public sequence base.0 n ≡ true → has o.listing n ≡ true

module _ (w : Pledge) (few : w.run < 2 ^ 128) (path folder : List ℕ) (lets : Begins w path folder) where
  abbrev p : Place
  p = Folder path folder

  both_held : (own mid later : List Deed) → Held own p mid → Held mid p later → Held own p later
  both_held own mid later a b = record { settled = λ s. b.settled (a.settled s); lock = b.lock }

  -- the folder's lock
  lock_goes : (own : List Deed) (h : Hand) → Goes w own h (folder_locked p) (okay (Of (Held own p)))
  unfolding folder_locked
  lock_goes own h =
      goes_lock w own h of_stop (okay (Of (Held own p))) p (locked_by p)
      (goes_return w _ h tt (okay (Of (Held own p))) (record { settled = λ f. settled_kept own (step.Lock p) answer.Done tt f; lock = last refl }))
      (goes_end w _ h (fault.Locked p) (Of (Held own p)))
      (goes_end w _ h (fault.Absent p) (Of (Held own p)))

  -- the mail directory
  mail_goes : (own : List Deed) (h : Hand) → HasLock p own → Goes w own h (mail_made (Mail path)) (okay (Of (Held own p)))
  unfolding mail_made
  mail_goes own h lock =
      goes_make w own h of_stop (okay (Of (Held own p))) (Mail path) _
      (λ s. (record { is_own = careful s.unfailed Makes (makes (Mail path)) (lets.mail.serves own Makes (step.MakeFolder (Mail path)) refl refl) (λ q l c. absurd c); marks = tt; steps = λ no. lets.mail.make own }, tt))
      (safe answer.Done) (safe answer.Exists)
    where
      safe : (a : Answer) → Goes w (did (step.MakeFolder (Mail path)) a ∷ own) h (synced (Mail path) lock_name) (okay (Of (Held own p)))
      safe a =
          goes_more w _ h (synced (Mail path) lock_name) (okay (Adds (did (step.MakeFolder (Mail path)) a ∷ own) (did (step.SyncFolder (Mail path)) answer.Done))) (okay (Of (Held own p)))
          (okay_more (Adds (did (step.MakeFolder (Mail path)) a ∷ own) (did (step.SyncFolder (Mail path)) answer.Done)) (Of (Held own p)) (λ later i u e. subst (λ z. Held own p z) (sym e) (record {
            settled = λ f. settled_kept _ (step.SyncFolder (Mail path)) answer.Done tt (settled_kept own (step.MakeFolder (Mail path)) a tt f);
            lock = still (λ e. cc (e)) (still (λ e. cc (e)) lock);
          })))
          (synced_goes w (did (step.MakeFolder (Mail path)) a ∷ own) h (Mail path) lock_name)

  -- what is held aside is put back
  abbrev IsListing : Settled → Deed → List Deed → Type 0
  IsListing s d older = d ≡ did (step.List p) (answer.Names s.names)

  abbrev Keeps : List Deed → Outcome Settled
  Keeps own later j s = Held own p later × Once (IsListing s) later

  back_goes : (own : List Deed) (h : Hand) → HasLock p own → Goes w own h (put_back w.run p) (okay (Keeps own))
  unfolding put_back
  back_goes own h lock =
      goes_list w own h of_stop (okay (Keeps own)) p (λ listing. names_by p listing >>= (λ names. settle p (held_pairs w.run names) (highest names) >>= (λ ends. Return (Ok (settled_of names ends)))))
      (λ names. goes_on w _ h names (λ names. settle p (held_pairs w.run names) (highest names) >>= (λ ends. Return (Ok (settled_of names ends)))) (okay (Keeps own)) (settles names))
      (goes_stop w _ h (fault.Absent p) (λ names. settle p (held_pairs w.run names) (highest names) >>= (λ ends. Return (Ok (settled_of names ends)))) (Keeps own))
    where
      settles : (names : List (List ℕ)) → Goes w (did (step.List p) (answer.Names names) ∷ own) h (settle p (held_pairs w.run names) (highest names) >>= (λ ends. Return (Ok (settled_of names ends)))) (okay (Keeps own))
      settles names =
          let listed = did (step.List p) (answer.Names names) ∷ own in
          goes_lasting w (Once (IsListing (settled_of names []))) (once_kept _ AnyStep) listed h (settle p (held_pairs w.run names) (highest names)) (λ ends. Return (Ok (settled_of names ends))) (λ later j ends. Held listed p later) (Keeps own) (now refl)
          (settle_goes w p lets.settles refl (held_pairs w.run names) (are_pairs names (held_pairs w.run names) (pairs_listed w.run names)) (highest names) (highest_small names) listed h (still (λ e. cc (e)) lock))
          (λ later j ends told g. goes_return w later j (settled_of names ends) (okay (Keeps own)) (record { settled = λ f. g.settled (settled_kept own (step.List p) (answer.Names names) tt f); lock = g.lock }, told))

  -- the text of the folder's sequences
  abbrev text_read : Answer → Deed
  text_read a = did (step.Read p sequences_name LIMIT_BYTES) a

  abbrev ReadsText : List Deed → Outcome (List ℕ)
  ReadsText own later j text = (a : Answer) × (later ≡ text_read a ∷ own) × TellsText p sequences_name text (text_read a) × IsBase w.run p sequences_name text (text_read a ∷ own)

  text_goes : (own : List Deed) (h : Hand) → HasLock p own → Goes w own h (sequences_read p) (okay (ReadsText own))
  unfolding sequences_read
  text_goes own h lock =
      goes_read w own h of_stop (okay (ReadsText own)) p sequences_name LIMIT_BYTES text_by
      (λ bytes. goes_return w _ h bytes (okay (ReadsText own)) (answer.Content bytes, refl, inl (LIMIT_BYTES, refl), found (LIMIT_BYTES, refl) lock))
      (λ l. goes_end w _ h (fault.TooLarge l) (ReadsText own))
      (goes_return w _ h [] (okay (ReadsText own)) (answer.Gone, refl, inr (LIMIT_BYTES, refl, refl), missing refl lock))

  -- the context's entries
  abbrev context_seen : Answer → Deed
  context_seen a = did (step.Read (Mail path) context_name LIMIT_BYTES) a

  abbrev ReadsEntries : List Deed → Outcome (List NamedValue)
  ReadsEntries own later j entries = (a : Answer) × (context : List ℕ) × (later ≡ context_seen a ∷ own) × TellsText (Mail path) context_name context (context_seen a) × (entries ≡ entries_in context)

  entries_goes : (own : List Deed) (h : Hand) → Goes w own h (context_read (Mail path)) (okay (ReadsEntries own))
  unfolding context_read
  entries_goes own h =
      goes_read w own h of_stop (okay (ReadsEntries own)) (Mail path) context_name LIMIT_BYTES entries_by
      (λ bytes. goes_return w _ h (entries_in bytes) (okay (ReadsEntries own)) (answer.Content bytes, bytes, refl, inl (LIMIT_BYTES, refl), refl))
      (λ l. goes_end w _ h (fault.TooLarge l) (ReadsEntries own))
      (goes_return w _ h [] (okay (ReadsEntries own)) (answer.Gone, [], refl, inr (LIMIT_BYTES, refl, refl), sym no_entries))

  known_goes : (own : List Deed) (h : Hand) (entries : List NamedValue) → Goes w own h (known entries) (okay (λ later j u. later ≡ own))
  unfolding Goes known
  known_goes own h entries = λ s. (omega arith, refl)

  -- the sequences by both
  record ReadsMarks (own later : List Deed) (m : Marked) : Type 0 where
    held : Held own p later
    text : List ℕ
    context : List ℕ
    read : HaveRead p (Mail path) text context later
    is : m ≡ sequences_in text (entries_in context) folder
    base : IsBase w.run p sequences_name text later

  abbrev Reads : List Deed → Outcome Marked
  Reads own later j m = ReadsMarks own later m

  marks_goes : (own : List Deed) (h : Hand) → HasLock p own → Goes w own h (marks_read p (Mail path) folder) (okay (Reads own))
  unfolding marks_read
  marks_goes own h lock =
      goes_then w own h (sequences_read p) (λ text. context_read (Mail path) >>= (λ entries. known entries >>= (λ seen. Return (Ok (sequences_in text entries folder))))) (ReadsText own) (Reads own)
      (text_goes own h lock) (λ later j text t. goes_at w later (text_read t.0 ∷ own) j _ (okay (Reads own)) t.1 (with_text j text t.0 t.2 t.3))
    where
      with_entries : (j : Hand) (text context : List ℕ) (entries : List NamedValue) (a b : Answer) → TellsText p sequences_name text (text_read a) → IsBase w.run p sequences_name text (text_read a ∷ own) → TellsText (Mail path) context_name context (context_seen b) → entries ≡ entries_in context
          → Goes w (context_seen b ∷ (text_read a ∷ own)) j (known entries >>= (λ seen. Return (Ok (sequences_in text entries folder)))) (okay (Reads own))
      with_entries j text context entries a b tells base told same =
          goes_then w (context_seen b ∷ (text_read a ∷ own)) j (known entries) (λ seen. Return (Ok (sequences_in text entries folder))) (λ later k u. later ≡ context_seen b ∷ (text_read a ∷ own)) (Reads own)
          (known_goes (context_seen b ∷ (text_read a ∷ own)) j entries)
          (λ later k u e. goes_at w later (context_seen b ∷ (text_read a ∷ own)) k (Return (Ok (sequences_in text entries folder))) (okay (Reads own)) e
          (goes_return w (context_seen b ∷ (text_read a ∷ own)) k (sequences_in text entries folder) (okay (Reads own)) (record {
            held = record {
              settled = λ f. settled_kept (text_read a ∷ own) (step.Read (Mail path) context_name LIMIT_BYTES) b tt (settled_kept own (step.Read p sequences_name LIMIT_BYTES) a tt f);
              lock = still (λ e. cc (e)) (still (λ e. cc (e)) lock);
            };
            text = text;
            context = context;
            read = now (told, now tells);
            is = ap (λ z. sequences_in text z folder) same;
            base = base_kept w.run p sequences_name text (text_read a ∷ own) (step.Read (Mail path) context_name LIMIT_BYTES) b (λ e f. cc (e)) base;
          })))

      with_text : (j : Hand) (text : List ℕ) (a : Answer) → TellsText p sequences_name text (text_read a) → IsBase w.run p sequences_name text (text_read a ∷ own)
          → Goes w (text_read a ∷ own) j (context_read (Mail path) >>= (λ entries. known entries >>= (λ seen. Return (Ok (sequences_in text entries folder))))) (okay (Reads own))
      with_text j text a tells base =
          goes_then w (text_read a ∷ own) j (context_read (Mail path)) (λ entries. known entries >>= (λ seen. Return (Ok (sequences_in text entries folder)))) (ReadsEntries (text_read a ∷ own)) (Reads own)
          (entries_goes (text_read a ∷ own) j)
          (λ later k entries r. goes_at w later (context_seen r.0 ∷ (text_read a ∷ own)) k _ (okay (Reads own)) r.2 (with_entries k text r.1 entries a r.0 tells base r.3 r.4))

  -- the cut
  abbrev Ends : List Deed → Outcome Opened
  Ends own later j o = HasBegun w own path folder later o

  further : (own mid : List Deed) → (AreSettled own → AreSettled mid) → (later : List Deed) (j : Hand) (o : Opened) → Ends mid later j o → Ends own later j o
  further own mid f later j o b = record {
    held = record { settled = λ s. b.held.settled (f s); lock = b.held.lock };
    place = b.place;
    name = b.name;
    text = b.text;
    context = b.context;
    seen = b.seen;
    sequences = b.sequences;
    base = b.base;
    marks = b.marks;
  }

  cut_goes : (own : List Deed) (h : Hand) (s : Settled) (text context : List ℕ) → HaveSeen w.run p (Mail path) (numbers_settled w.run s) text context own → HasLock p own → IsBase w.run p sequences_name text own
      → Goes w own h (marks_cut w.run p (Mail path) folder s (sequences_in text (entries_in context) folder)) (okay (Ends own))
  unfolding marks_cut
  cut_goes own h s text context seen lock base =
      goes_lasting w Seen (seen_kept w.run p (Mail path) listing text context) own h (cut_committed w.run p (Mail path) folder m listing) (λ cut. Return (Ok o)) (Of (Cut own)) (Ends own) seen
      (changed_goes w few p lets.serves path (λ e. cc (e)) lets.mail folder m new Seen (seen_kept w.run p (Mail path) listing text context) (lets.entries text context listing) own h text seen may)
      (λ later j u still_seen c. goes_return w later j o (okay (Ends own)) (record {
        held = held_by later c;
        place = refl;
        name = refl;
        text = text;
        context = context;
        seen = still_seen;
        sequences = refl;
        base = base_by later c;
        marks = marks_by later c;
      }))
    where
      listing : List Run
      listing = numbers_settled w.run s

      Seen : List Deed → Type 0
      Seen later = HaveSeen w.run p (Mail path) listing text context later

      m : Marked
      m = sequences_in text (entries_in context) folder

      new : Marked
      new = cut_to listing m

      o : Opened
      o = opened_of p folder listing new s.ends

      Cut : List Deed → List Deed → Type 0
      Cut own later = CommittedOrSame w few p lets.serves path (λ e. cc (e)) lets.mail folder m new Seen (seen_kept w.run p (Mail path) listing text context) (lets.entries text context listing) own later

      seen_twice : (temp : List ℕ) → Seen (after_written p temp (text_of new) own)
      seen_twice temp = seen_kept w.run p (Mail path) listing text context _ (step.SyncFile p temp) answer.Done tt (seen_kept w.run p (Mail path) listing text context own (step.Create p temp (text_of new)) answer.Done tt seen)

      may : MayReplace w p text (text_of new) own
      may = record {
        committed = rw (kind_of-entry_text Sequences tt) refl;
        lock = lock;
        base = base;
        mark = λ temp. lets.cut (after_written p temp (text_of new) own) text context listing text (seen_twice temp);
        step_ = λ temp marked. lets.moves (after_written p temp (text_of new) own) temp (still (λ e. cc (e)) (still (λ e. cc (e)) lock)) marked;
      }

      held_by : (later : List Deed) → Cut own later → Held own p later
      held_by later (inl same) = subst (λ z. Held own p z) (sym same.1) (record { settled = λ f. f; lock = lock })
      held_by later (inr c) = record { settled = c.settled_still; lock = c.lock }

      base_by : (later : List Deed) → Cut own later → (old : List ℕ) × IsBase w.run p sequences_name old later
      base_by later (inl same) = (text, subst (λ z. IsBase w.run p sequences_name text z) (sym same.1) base)
      base_by later (inr c) = (text_of new, c.base)

      marks_by : (later : List Deed) (c : Cut own later) (sequence : List ℕ) (n : ℕ) → says_public sequence (base_by later c).0 n ≡ true → has listing n ≡ true
      marks_by later (inl same) sequence n e = same_marks listing text context folder sequence n same.0 e
      marks_by later (inr c) sequence n e = cut_marks listing text context folder sequence n e

  -- what was settled is cleared and read
  read_goes : (own : List Deed) (h : Hand) (s : Settled) → HasLock p own → Once (IsListing s) own → Goes w own h (settled_read w.run p (Mail path) folder s) (okay (Ends own))
  unfolding settled_read
  read_goes own h s lock listed =
      goes_lasting w (Once (IsListing s)) (once_kept _ AnyStep) own h (cleared p s.names) (λ clear. marks_read p (Mail path) folder >>= (λ marked. marks_cut w.run p (Mail path) folder s marked)) (Of (Held own p)) (Ends own) listed (cleared_goes w p lets.serves own h s.names lock)
      (λ mid j u told g.
      goes_lasting w (Once (IsListing s)) (once_kept _ AnyStep) mid j (marks_read p (Mail path) folder) (λ marked. marks_cut w.run p (Mail path) folder s marked) (Reads mid) (Ends own) told (marks_goes mid j g.lock)
      (λ later k m still_told r.
      goes_more w later k (marks_cut w.run p (Mail path) folder s m) (okay (Ends later)) (okay (Ends own)) (okay_more (Ends later) (Ends own) (further own later (λ f. r.held.settled (g.settled f))))
      (subst (λ z. Goes w later k (marks_cut w.run p (Mail path) folder s z) (okay (Ends later))) (sym r.is)
      (cut_goes later k s r.text r.context (record { listed = (s, refl, still_told); read = r.read }) r.held.lock r.base))))

  -- a folder is begun as the command pledges: each of its steps is careful and in order, what it commits is what it read, cut, and then the
  -- lock is had and the folder's text is known
  pub begun_goes : (own : List Deed) (h : Hand) → Goes w own h (begun w.run p (Mail path) folder) (okay (Ends own))
  unfolding begun locked_begun
  begun_goes own h =
      goes_then w own h (folder_locked p) (λ held. mail_made (Mail path) >>= (λ made. put_back w.run p >>= (λ s. settled_read w.run p (Mail path) folder s))) (Of (Held own p)) (Ends own) (lock_goes own h)
      (λ first j u a.
      goes_then w first j (mail_made (Mail path)) (λ made. put_back w.run p >>= (λ s. settled_read w.run p (Mail path) folder s)) (Of (Held first p)) (Ends own) (mail_goes first j a.lock)
      (λ second k v b.
      goes_then w second k (put_back w.run p) (λ s. settled_read w.run p (Mail path) folder s) (Keeps second) (Ends own) (back_goes second k b.lock)
      (λ third i s c.
      goes_more w third i (settled_read w.run p (Mail path) folder s) (okay (Ends third)) (okay (Ends own)) (okay_more (Ends third) (Ends own) (further own third (λ f. c.0.settled (b.settled (a.settled f))))) (read_goes third i s c.0.lock c.1))))
