-- What a run knows of the marks of a folder's sequences once it has begun it: its text and the context mark only what the sequences have.
use Rattle.std.proofs.Common.{◌≡◌, ◌||◌, ◌+◌, ◌∷◌, [], ℕ, Bool, true, false, List, Some, Ok, refl, sym, ◌∙◌, ap, subst, arith}
use Rattle.mail_headers.specs.Fields.{fields_of}
use Rattle.mh_base.specs.Entries.{kind_of}
use Rattle.mh_base.specs.declared.entry.Entry.TheVariants.{Number}
use Rattle.mh_profile.specs.Reading.{entries_in}
use Rattle.mh_profile.specs.declared.named_value.NamedValue.{NamedValue}
use Rattle.mh_sequences.specs.Names.{is_seq_name}
use Rattle.mh_sequences.specs.Reading.{lists_private, lists_public, suffix}
use Rattle.mh_sequences.specs.Sequences.{Marked, member}
use Rattle.mh_sequences.specs.declared.run.Run.{Run}
use Rattle.folder_files.specs.Careful.{HasLock}
use Rattle.folder_files.specs.Deeds.{Deed, did, last, still}
use Rattle.folder_files.specs.Steps.{has_text}
use Rattle.folder_files.specs.declared.place.Place.{Place}
use Rattle.folder_files.specs.declared.place.Place.TheVariants.{Folder, Mail}
use Rattle.folder_files.specs.declared.step.Answer.TheVariants as answer
use Rattle.folder_files.specs.declared.step.Step.{Step}
use Rattle.folder_files.specs.declared.step.Step.TheVariants as step
use Rattle.folder_files.proofs.Names.{both, not_both, number_text, or_last}
use Rattle.file_plans.specs.Plan.{Hand, Plan, Return, bind, ◌>>=◌}
use Rattle.file_plans.specs.Sightings.{has_number}
use Rattle.file_plans.specs.Framing.{AsksOnly}
use Rattle.file_plans.proofs.NumberTexts.{has_number_text}
use Rattle.file_plans.proofs.Showing.{is_number_of}
use Rattle.step_plans.specs.Commits.{IsBase}
use Rattle.step_plans.specs.Commits as commits
use Rattle.step_plans.specs.ContextCommit.{LIMIT_BYTES, context_name, context_read, entries_by}
use Rattle.step_plans.specs.Hands.{known}
use Rattle.step_plans.specs.Locking.{cleared, lock_name}
use Rattle.step_plans.specs.PlanFaults.{Planned, of_stop}
use Rattle.step_plans.specs.Pledges.{MayAsk, Pledge}
use Rattle.step_plans.specs.Replacing.{synced}
use Rattle.step_plans.specs.declared.fault.PlanFault.TheVariants as fault
use Rattle.step_plans.proofs.Asks.{asks_cleared, asks_synced}
use Rattle.step_plans.proofs.Committed.{no_entries}
use Rattle.step_plans.proofs.Facts.{base_kept}
use Rattle.step_plans.proofs.Going.{Outcome, okay}
use Rattle.held_messages.specs.HeldPairs.{held_pairs}
use Rattle.held_messages.specs.Highest.{highest}
use Rattle.held_messages.specs.Settle.{Settled, names_by, put_back, settle, settled_of}
use Rattle.held_messages.proofs.ListedPairs.{are_pairs, pairs_listed}
use Rattle.held_messages.proofs.Telling.{highest_small}
use Rattle.held_messages.proofs.Tops.{highest_above}
use Rattle.marks_law.specs.Apart as apart
use Rattle.marks_law.specs.Minding.{Sees, listed}
use Rattle.sequence_marks.specs.SequenceMarks.{says_private}
use Rattle.sequence_commits.specs.Committing.{cut_committed}
use Rattle.sequence_commits.specs.Reading.{sequences_in}
use Rattle.sequence_commits.proofs.ReadOnce.{read_is, read_valid}
use Rattle.sequence_commits.proofs.SequencesPledged.{sequences_name}
use Rattle.sequence_marks.proofs.OtherEntries.{by_bool}
use Rattle.opening_plans.specs.Existing.{numbers_settled}
use Rattle.opening_plans.specs.FolderPledge.{told_within}
use Rattle.opening_plans.specs.Opening.{Opened, begun, folder_locked, locked_begun, locked_by, mail_made, marks_cut, marks_read, opened_of, sequences_read, settled_read, text_by}
use Rattle.opening_plans.proofs.AllMarks.{MindsAll}
use Rattle.opening_plans.proofs.CommitMinds.{IsTold}
use Rattle.opening_plans.proofs.MarksWritten.{and_both}
use Rattle.opening_plans.proofs.Meeting.{Meets, meets_end, meets_list, meets_lock, meets_make, meets_on, meets_quietly, meets_read, meets_return, meets_stop, meets_then, meets_weaker}
use Rattle.opening_plans.proofs.SettledSeen.{AbsentFrom, HasSettled, number_ranged, settle_meets}
use Rattle.opening_plans.proofs.ToldMarks.{read_cur, told_cur, told_valid}
use Rattle.refile_plans.proofs.Meetings.{AnyAsk}
use Rattle.sortm_plans.proofs.MarksKnown.{KnowsMarks, ReadSo, changed_known}
use Rattle.opening_plans.proofs.BaseMarks.{read_marks}

read_private : (text context folder sequence : List ℕ) (n : ℕ) → says_private folder sequence context n ≡ true → member (sequences_in text (entries_in context) folder).users sequence n ≡ true
read_private text context folder sequence n e =
    let parts = both (is_seq_name sequence) (lists_private (entries_in context) (suffix folder) sequence n) e in
    (read_is text (entries_in context) folder).numbers sequence n
    ∙ and_both (is_seq_name sequence) (lists_public (fields_of text) sequence n || lists_private (entries_in context) (suffix folder) sequence n) parts.0
    (or_last (lists_public (fields_of text) sequence n) (lists_private (entries_in context) (suffix folder) sequence n) parts.1)

module _ (w : Pledge) (path folder : List ℕ) where
  abbrev Of : List ℕ → Type 0
  Of other = IsTold folder other

  abbrev p : Place
  p = Folder path folder

  abbrev mail : Place
  mail = Mail path

  abbrev M : {R : Type 0} → List Deed → Hand → Plan R → Outcome R → Type 0
  M own h plan Q = Meets (MayAsk w) AnyAsk own h plan Q

  -- the folder's lock is had
  abbrev Locked : (R : Type 0) → Outcome R
  Locked R later j r = HasLock p later

  -- a step that leaves it
  abbrev Stays : Step → Type 0
  Stays s = s ≡ step.Unlock p → ⊥

  quietly : (own : List Deed) (h : Hand) (plan : Planned Unit) → AsksOnly Stays plan → HasLock p own → M own h plan (okay (Locked Unit))
  quietly own h plan asks f = meets_quietly (MayAsk w) AnyAsk Stays (HasLock p) (λ before s a may off g. still off g) (λ before s may off g. tt) own h plan asks f

  lock_known : (own : List Deed) (h : Hand) → M own h (folder_locked p) (okay (Locked Unit))
  unfolding folder_locked
  lock_known own h =
      meets_lock (MayAsk w) AnyAsk own h of_stop (okay (Locked Unit)) p (locked_by p)
      (λ may. (
        tt,
        meets_return (MayAsk w) AnyAsk (did (step.Lock p) answer.Done ∷ own) h tt (okay (Locked Unit)) (last refl),
        meets_end (MayAsk w) AnyAsk (did (step.Lock p) answer.Busy ∷ own) h (fault.Locked p) (Locked Unit),
        meets_end (MayAsk w) AnyAsk (did (step.Lock p) answer.Gone ∷ own) h (fault.Absent p) (Locked Unit),
      ))

  mail_known : (own : List Deed) (h : Hand) → HasLock p own → M own h (mail_made mail) (okay (Locked Unit))
  unfolding mail_made
  mail_known own h lock =
      meets_make (MayAsk w) AnyAsk own h of_stop (okay (Locked Unit)) mail (λ made. synced mail lock_name)
      (λ may. (tt, safe (did (step.MakeFolder mail) answer.Done ∷ own) (still (λ e. cc (e)) lock), safe (did (step.MakeFolder mail) answer.Exists ∷ own) (still (λ e. cc (e)) lock)))
    where
      safe : (later : List Deed) → HasLock p later → M later h (synced mail lock_name) (okay (Locked Unit))
      safe later f = quietly later h (synced mail lock_name) (asks_synced Stays mail lock_name (λ e. cc (e))) f

  -- what is held aside is put back
  back_known : (own : List Deed) (h : Hand) → HasLock p own → M own h (put_back w.run p) (okay (Locked Settled))
  unfolding put_back
  back_known own h lock =
      meets_list (MayAsk w) AnyAsk own h of_stop (okay (Locked Settled)) p (λ listing. names_by p listing >>= (λ names. settle p (held_pairs w.run names) (highest names) >>= (λ ends. Return (Ok (settled_of names ends)))))
      (λ may. (
        tt,
        (λ names. meets_on (MayAsk w) AnyAsk (did (step.List p) (answer.Names names) ∷ own) h names (λ names. settle p (held_pairs w.run names) (highest names) >>= (λ ends. Return (Ok (settled_of names ends)))) (okay (Locked Settled)) (settles names)),
        meets_stop (MayAsk w) AnyAsk (did (step.List p) answer.Gone ∷ own) h (fault.Absent p) (λ names. settle p (held_pairs w.run names) (highest names) >>= (λ ends. Return (Ok (settled_of names ends)))) (Locked Settled),
      ))
    where
      settles : (names : List (List ℕ)) → M (did (step.List p) (answer.Names names) ∷ own) h (settle p (held_pairs w.run names) (highest names) >>= (λ ends. Return (Ok (settled_of names ends)))) (okay (Locked Settled))
      settles names =
          meets_then (MayAsk w) AnyAsk seen_ h (settle p (held_pairs w.run names) (highest names)) (λ ends. Return (Ok (settled_of names ends))) (λ later j ends. HasSettled Of w p seen_ (held_pairs w.run names) (highest names) later ends) (Locked Settled)
          (meets_weaker (MayAsk w) (MindsAll Of w.run) AnyAsk (λ before s m. tt) seen_ h (settle p (held_pairs w.run names) (highest names)) (okay (λ later j ends. HasSettled Of w p seen_ (held_pairs w.run names) (highest names) later ends))
          (settle_meets Of w p (held_pairs w.run names) (are_pairs names (held_pairs w.run names) (pairs_listed w.run names)) (highest names) (highest_small names) seen_ h (still (λ e. cc (e)) lock) absent))
          (λ later j ends f. meets_return (MayAsk w) AnyAsk later j (settled_of names ends) (okay (Locked Settled)) f.grows.lock)
        where
          seen_ : List Deed
          seen_ = did (step.List p) (answer.Names names) ∷ own

          listed_number : (z : List ℕ) (n : ℕ) → kind_of z ≡ Number n → has_text z names ≡ true → has_number n names ≡ true
          listed_number z n kind e = has_number_text n names ∙ rw (is_number_of n (number_ranged z n kind)) (subst (λ y. has_text y names ≡ true) (number_text z n kind) e)

          absent : AbsentFrom Of w p (highest names + 1) seen_
          absent z j kind low = go (has_text z names) refl
            where
              go : (b : Bool) → has_text z names ≡ b → Sees p z false seen_
              go true e = absurd (let high = highest_above names j (listed_number z j kind e) in omega (arith, high, low))
              go false e = subst (λ y. Sees p z y seen_) e (listed refl lock)

  -- the folder's text and the context are read
  abbrev HasRead : List ℕ → List Deed → Type 0
  HasRead text own = HasLock p own × IsBase w.run p sequences_name text own

  text_known : (own : List Deed) (h : Hand) → HasLock p own → M own h (sequences_read p) (okay (λ later j text. HasRead text later))
  unfolding sequences_read
  text_known own h lock =
      meets_read (MayAsk w) AnyAsk own h of_stop (okay (λ later j text. HasRead text later)) p sequences_name LIMIT_BYTES text_by
      (λ may. (
        tt,
        (λ bytes. meets_return (MayAsk w) AnyAsk (did (step.Read p sequences_name LIMIT_BYTES) (answer.Content bytes) ∷ own) h bytes (okay (λ later j text. HasRead text later)) (still (λ e. cc (e)) lock, commits.found (LIMIT_BYTES, refl) lock)),
        (λ l. meets_end (MayAsk w) AnyAsk (did (step.Read p sequences_name LIMIT_BYTES) (answer.Long l) ∷ own) h (fault.TooLarge l) (λ later j text. HasRead text later)),
        meets_return (MayAsk w) AnyAsk (did (step.Read p sequences_name LIMIT_BYTES) answer.Gone ∷ own) h [] (okay (λ later j text. HasRead text later)) (still (λ e. cc (e)) lock, commits.missing refl lock),
      ))

  abbrev Entries : List ℕ → Outcome (List NamedValue)
  Entries text later j es = (context : List ℕ) × (es ≡ entries_in context) × (ReadSo w path folder context later × IsBase w.run p sequences_name text later)

  entries_known : (text : List ℕ) (own : List Deed) (h : Hand) → HasRead text own → M own h (context_read mail) (okay (Entries text))
  unfolding context_read
  entries_known text own h f =
      meets_read (MayAsk w) AnyAsk own h of_stop (okay (Entries text)) mail context_name LIMIT_BYTES entries_by
      (λ may. (
        tt,
        (λ bytes. meets_return (MayAsk w) AnyAsk (did (step.Read mail context_name LIMIT_BYTES) (answer.Content bytes) ∷ own) h (entries_in bytes) (okay (Entries text))
            (bytes, refl, ((still (λ e. cc (e)) f.0, (λ sequence n e. apart.found (LIMIT_BYTES, refl) f.0 e)), base_kept w.run p sequences_name text own (step.Read mail context_name LIMIT_BYTES) (answer.Content bytes) (λ same. cc (same)) f.1))),
        (λ l. meets_end (MayAsk w) AnyAsk (did (step.Read mail context_name LIMIT_BYTES) (answer.Long l) ∷ own) h (fault.TooLarge l) (Entries text)),
        meets_return (MayAsk w) AnyAsk (did (step.Read mail context_name LIMIT_BYTES) answer.Gone ∷ own) h [] (okay (Entries text))
            ([], sym no_entries, ((still (λ e. cc (e)) f.0, (λ sequence n e. apart.missing refl f.0)), base_kept w.run p sequences_name text own (step.Read mail context_name LIMIT_BYTES) answer.Gone (λ same. cc (same)) f.1)),
      ))

  -- the sequences that both tell
  abbrev Told : Outcome Marked
  Told later j m = (text : List ℕ) × (context : List ℕ) × (m ≡ sequences_in text (entries_in context) folder) × KnowsMarks w path folder (sequences_in text (entries_in context) folder) later j

  told_known : (own : List Deed) (h : Hand) (es : List NamedValue) (text context : List ℕ) → es ≡ entries_in context → ReadSo w path folder context own → IsBase w.run p sequences_name text own
      → M own h (known es >>= (λ seen. Return (Ok (sequences_in text es folder)))) (okay Told)
  unfolding Meets known bind ◌>>=◌
  told_known own h es text context is read base = (
    text,
    context,
    ap (λ z. sequences_in text z folder) is,
    record {
      hand = record { context = context; hand = ap (λ z. Some z) is; read = read };
      text = text;
      base = base;
      marks = λ sequence n e. read_marks text context folder sequence n e;
      frees = λ sequence n off. by_bool (says_private folder sequence context n) (λ t. absurd (not_both (member (sequences_in text (entries_in context) folder).users sequence n) (read_private text context folder sequence n t) off)) (λ e. read.1 sequence n e);
    },
  )

  marks_known : (own : List Deed) (h : Hand) → HasLock p own → M own h (marks_read p mail folder) (okay Told)
  unfolding marks_read
  marks_known own h lock =
      meets_then (MayAsk w) AnyAsk own h (sequences_read p) (λ text. context_read mail >>= (λ entries. known entries >>= (λ seen. Return (Ok (sequences_in text entries folder))))) (λ later j text. HasRead text later) Told (text_known own h lock)
      (λ later j text f.
      meets_then (MayAsk w) AnyAsk later j (context_read mail) (λ entries. known entries >>= (λ seen. Return (Ok (sequences_in text entries folder)))) (Entries text) Told (entries_known text later j f)
      (λ last i es g. told_known last i es text g.0 g.1 g.2.0 g.2.1))

  -- absent numbers are cut off
  abbrev Known : Outcome Opened
  Known later j o = KnowsMarks w path folder o.sequences later j

  cut_known : (own : List Deed) (h : Hand) (s : Settled) (text context : List ℕ) → KnowsMarks w path folder (sequences_in text (entries_in context) folder) own h → M own h (marks_cut w.run p mail folder s (sequences_in text (entries_in context) folder)) (okay Known)
  unfolding marks_cut
  cut_known own h s text context f =
      meets_then (MayAsk w) AnyAsk own h (cut_committed w.run p mail folder (sequences_in text (entries_in context) folder) listing_) (λ cut. Return (Ok (opened_of p folder listing_ (told_within listing_ text context folder) s.ends)))
      (λ later j u. KnowsMarks w path folder (told_within listing_ text context folder) later j) Known
      (changed_known w path folder (sequences_in text (entries_in context) folder) (told_within listing_ text context folder) (read_valid text (entries_in context) folder) (told_valid listing_ text context folder) (read_cur text context folder) (told_cur listing_ text context folder) own h f)
      (λ later j u g. meets_return (MayAsk w) AnyAsk later j (opened_of p folder listing_ (told_within listing_ text context folder) s.ends) (okay Known) g)
    where
      listing_ : List Run
      listing_ = numbers_settled w.run s

  -- a folder is begun
  pub begun_known : (own : List Deed) (h : Hand) → M own h (begun w.run p mail folder) (okay Known)
  unfolding begun locked_begun settled_read
  begun_known own h =
      meets_then (MayAsk w) AnyAsk own h (folder_locked p) (λ held. mail_made mail >>= (λ made. put_back w.run p >>= (λ s. cleared p s.names >>= (λ clear. marks_read p mail folder >>= (λ marked. marks_cut w.run p mail folder s marked))))) (Locked Unit) Known (lock_known own h)
      (λ first j u a.
      meets_then (MayAsk w) AnyAsk first j (mail_made mail) (λ made. put_back w.run p >>= (λ s. cleared p s.names >>= (λ clear. marks_read p mail folder >>= (λ marked. marks_cut w.run p mail folder s marked)))) (Locked Unit) Known (mail_known first j a)
      (λ second k v b.
      meets_then (MayAsk w) AnyAsk second k (put_back w.run p) (λ s. cleared p s.names >>= (λ clear. marks_read p mail folder >>= (λ marked. marks_cut w.run p mail folder s marked))) (Locked Settled) Known (back_known second k b)
      (λ third i s c.
      meets_then (MayAsk w) AnyAsk third i (cleared p s.names) (λ clear. marks_read p mail folder >>= (λ marked. marks_cut w.run p mail folder s marked)) (Locked Unit) Known (quietly third i (cleared p s.names) (asks_cleared Stays p s.names (λ temp is e. cc (e))) c)
      (λ fourth l u d.
      meets_then (MayAsk w) AnyAsk fourth l (marks_read p mail folder) (λ marked. marks_cut w.run p mail folder s marked) Told Known (marks_known fourth l d)
      (λ end x m g. subst (λ z. M end x (marks_cut w.run p mail folder s z) (okay Known)) (sym g.2) (cut_known end x s g.0 g.1 g.3))))))
