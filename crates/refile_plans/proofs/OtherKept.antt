-- What the begin of a folder leaves of what the run knows of another folder that it has begun.
use Rattle.std.proofs.Common.{◌≡◌, ◌∷◌, [], ℕ, Bool, true, false, List, Result, Ok, Err, refl, sym, ◌∙◌, ap, subst, nat_lt, length, bytes_eq}
use Rattle.std.specs.Prelude.{if◌then◌else◌}
use Rattle.mh_profile.specs.declared.named_value.NamedValue.{NamedValue}
use Rattle.mh_profile.specs.Reading.{entries_in, entries_seen}
use Rattle.mh_sequences.specs.Names.{is_seq_name}
use Rattle.mh_sequences.specs.Printing.{private_entries, text_of}
use Rattle.mh_sequences.specs.Reading.{attribute, suffix}
use Rattle.mh_sequences.specs.Sequences.{AreSequences, Marked}
use Rattle.mh_sequences.specs.declared.run.Run.{Run}
use Rattle.mh_sequences.proofs.ContextEntries.{valid_entries}
use Rattle.mh_sequences.proofs.Suffixes.{suffix_clean}
use Rattle.folder_files.specs.Deeds.{Deed, did}
use Rattle.folder_files.specs.declared.place.Place.{Place}
use Rattle.folder_files.specs.declared.place.Place.TheVariants.{Folder, Mail}
use Rattle.folder_files.specs.declared.step.Answer.{Answer}
use Rattle.folder_files.specs.declared.step.Answer.TheVariants as answer
use Rattle.folder_files.specs.declared.step.Step.{Step}
use Rattle.folder_files.specs.declared.step.Step.TheVariants as step
use Rattle.file_plans.specs.Framing.{AsksOnly}
use Rattle.file_plans.specs.Plan.{Hand, Plan, Return, lifted, ◌>>=◌}
use Rattle.step_plans.specs.ContextCommit.{AreChanges, LIMIT_BYTES, commit_context, context_name, context_read, entries_by}
use Rattle.step_plans.specs.Hands.{known}
use Rattle.step_plans.specs.Locking.{cleared}
use Rattle.step_plans.specs.PlanFaults.{of_stop}
use Rattle.step_plans.specs.Pledges.{MayAsk, Pledge}
use Rattle.step_plans.specs.Replacing.{replaced}
use Rattle.step_plans.specs.declared.change.ChangeEntry.{ChangeEntry}
use Rattle.step_plans.specs.declared.fault.PlanFault.{PlanFault}
use Rattle.step_plans.specs.declared.fault.PlanFault.TheVariants as fault
use Rattle.step_plans.proofs.Asks.{asks_cleared, asks_replaced}
use Rattle.step_plans.proofs.Committed.{no_entries}
use Rattle.step_plans.proofs.Going.{Outcome, okay}
use Rattle.held_messages.specs.Settle.{Settled, put_back}
use Rattle.marks_law.specs.Apart as apart
use Rattle.sequence_commits.specs.Committing.{changed_sequences, committed_unless, cut_committed, entries_committed, sequences_replaced, told_committed}
use Rattle.sequence_commits.specs.PrivateChanges.{changes_to}
use Rattle.sequence_commits.specs.Reading.{sequences_in}
use Rattle.sequence_commits.specs.Telling.{same_told}
use Rattle.sequence_commits.proofs.ChangesTo.{are_changes}
use Rattle.sequence_commits.proofs.SequencesPledged.{sequences_name}
use Rattle.opening_plans.specs.Existing.{numbers_settled}
use Rattle.opening_plans.specs.FolderPledge.{told_within}
use Rattle.opening_plans.specs.Making.{made_begun, once_made}
use Rattle.opening_plans.specs.Opening.{Opened, begun, folder_locked, locked_begun, mail_made, marks_cut, marks_read, opened_of, sequences_read, settled_read}
use Rattle.opening_plans.proofs.AllMarks.{MindsAll}
use Rattle.opening_plans.proofs.CommitSeen.{NoCommit, Synced, commit_meets_so, synced_kept}
use Rattle.opening_plans.proofs.FolderEndings.{entries_of_folder, of_folder}
use Rattle.opening_plans.proofs.FolderSeen.{Quiet, Seen, quiet_seen, renamed_own}
use Rattle.opening_plans.proofs.FreeMarks.{FreesOthers, free_kept}
use Rattle.opening_plans.proofs.MarksWritten.{Silent, changes_silent, marks_stay}
use Rattle.opening_plans.proofs.Meeting.{Meets, meets_end, meets_lifted, meets_make, meets_quietly, meets_read, meets_return, meets_then, meets_weaker}
use Rattle.opening_plans.proofs.ToldMarks.{told_valid}
use Rattle.refile_plans.proofs.BeginsAsks.{Opens, asks_back, asks_lock, asks_mail, asks_text_read}
use Rattle.refile_plans.proofs.Meetings.{AnyAsk}

-- the marks of no folder's private sequences
abbrev NoFolder : List ℕ → Type 0
NoFolder other = ⊥

-- The pledge; a folder that was begun, what was listed there and is there; and another folder, whose sequences have other entries.
module _ (w : Pledge) (path folder : List ℕ) (names : List (List ℕ)) (There : List ℕ → Type 0) (listing : List Run) (other : List ℕ) (off : Folder path other ≡ Folder path folder → ⊥) (told : bytes_eq (suffix folder) (suffix other) ≡ false) where
  abbrev p : Place
  p = Folder path folder

  abbrev q : Place
  q = Folder path other

  abbrev mail : Place
  mail = Mail path

  abbrev M : {R : Type 0} → List Deed → Hand → Plan R → Outcome R → Type 0
  M own h plan Q = Meets (MayAsk w) AnyAsk own h plan Q

  -- what the run knows of the folder
  abbrev pub KeptOf : List Deed → Type 0
  KeptOf own = (Seen p names There own × Synced path folder own) × FreesOthers w.run path folder listing own

  quiet_no : (s : Step) → Quiet p s → s ≡ step.Unlock p → ⊥
  quiet_no s quiet e = (subst (λ z. Quiet p z) e quiet) refl

  -- steps that leave it
  abbrev Between : Step → Type 0
  Between s = Quiet p s × NoCommit path s

  between_kept : (own : List Deed) (s : Step) (a : Answer) → MayAsk w own s → Between s → KeptOf own → KeptOf (did s a ∷ own)
  between_kept own s a may b f = (
    (quiet_seen w p names There own s a may b.0 f.0.0, synced_kept NoFolder w path folder own s a b.0 b.1 f.0.1),
    (λ sequence n e. free_kept w.run path folder sequence n own s a (quiet_no s b.0) b.1 (f.1 sequence n e)),
  )

  opens : Opens Between w.run q mail
  opens = record {
    text = record {
      make = (tt, λ t e. cc (e));
      lock = (tt, λ t e. cc (e));
      list = (tt, λ t e. cc (e));
      clear = λ temp is. ((λ e. is), λ t e. cc (e));
      read = (tt, λ t e. cc (e));
      create = λ temp bytes. (tt, λ t e. cc (e));
      sync_file = λ temp. (tt, λ t e. cc (e));
      rename = λ temp. ((λ e. absurd (off e)), λ t e. cc (e));
      sync = (tt, λ t e. cc (e));
      unlock = (off, λ t e. cc (e));
    };
    make_mail = (tt, λ t e. cc (e));
    sync_mail = (tt, λ t e. cc (e));
    read_context = (tt, λ t e. cc (e));
    give = λ h number pair others. (off, λ t e. cc (e));
    drop = λ name. ((λ e. absurd (off e)), λ t e. cc (e));
  }

  -- a part all of whose steps leave it
  quietly : {S E : Type 0} (own : List Deed) (h : Hand) (plan : Plan (Result S E)) → AsksOnly Between plan → KeptOf own → M own h plan (okay (λ later j (a : S). KeptOf later))
  quietly own h plan asks f = meets_quietly (MayAsk w) AnyAsk Between KeptOf between_kept (λ before s may b g. tt) own h plan asks f

  -- a commit of the context that says nothing of the folder's sequences
  abbrev Silently : List ChangeEntry → Type 0
  Silently cs = (sequence : List ℕ) → is_seq_name sequence ≡ true → Silent cs (attribute (suffix folder) sequence)

  no_minds : (own : List Deed) (temp : List ℕ) → MindsAll NoFolder w.run own (step.Rename mail temp context_name)
  no_minds own temp = record { public = λ m f s c. absurd (cc (c)); private = λ m f s is c. absurd is; considerate = λ m f s is t e. absurd is }

  commit_kept : (cs : List ChangeEntry) → AreChanges cs → Silently cs → (own : List Deed) (h : Hand) → KeptOf own → M own h (commit_context w.run mail cs) (okay (λ later j u. KeptOf later))
  commit_kept cs ok silent own h f =
      meets_weaker (MayAsk w) (MindsAll NoFolder w.run) AnyAsk (λ before s m. tt) own h (commit_context w.run mail cs) (okay (λ later j u. KeptOf later))
      (commit_meets_so NoFolder w path folder (Seen p names There) (quiet_seen w p names There) (λ before g. g.lock) cs (λ before temp old may g safe context made. no_minds before temp)
      (FreesOthers w.run path folder listing) (FreesOthers w.run path folder listing)
      (λ before s a may quiet none g sequence n e. free_kept w.run path folder sequence n before s a (quiet_no s quiet) none (g sequence n e))
      (λ before s a may quiet none g sequence n e. free_kept w.run path folder sequence n before s a (quiet_no s quiet) none (g sequence n e))
      (λ before temp old may g context made free sequence n e. apart.carried refl (renamed_own w mail before temp context_name refl may) made context.base (λ says. sym (marks_stay cs old folder sequence n ok (silent sequence)) ∙ says) (free sequence n e))
      own h f.0.0 f.0.1 f.1 (λ e. f.1))

  -- the sequences of the other folder are committed
  module _ (m : Marked) (valid : AreSequences m.users) where
    abbrev kept : List NamedValue
    kept = private_entries (suffix other) m.users

    text_kept : (own : List Deed) (h : Hand) (text : List ℕ) → KeptOf own → M own h (sequences_replaced w.run q text) (okay (λ later j u. KeptOf later))
    unfolding sequences_replaced
    text_kept own h text f = go (nat_lt LIMIT_BYTES (length text))
      where
        go : (b : Bool) → M own h (if b then Return (Err (fault.TooLarge (length text))) else replaced w.run q sequences_name text) (okay (λ later j u. KeptOf later))
        go true = meets_end (MayAsk w) AnyAsk own h (fault.TooLarge (length text)) (λ later j u. KeptOf later)
        go false = quietly own h (replaced w.run q sequences_name text) (asks_replaced Between w.run q sequences_name text opens.text) f

    entries_kept : (own : List Deed) (h : Hand) → KeptOf own → M own h (entries_committed w.run mail (suffix other) kept) (okay (λ later j u. KeptOf later))
    unfolding Meets entries_committed
    entries_kept own h f =
        commit_kept (changes_to (suffix other) kept (entries_seen h.context)) (are_changes (suffix other) kept (entries_seen h.context) (valid_entries (suffix other) m.users (suffix_clean other) valid))
        (λ sequence named. changes_silent kept (entries_seen h.context) (suffix other) (attribute (suffix folder) sequence) (of_folder (suffix other) folder sequence named ∙ told) (entries_of_folder other m.users valid)) own h f

    sequences_kept : (old_ : Marked) (own : List Deed) (h : Hand) → KeptOf own → M own h (changed_sequences w.run q mail other old_ m) (okay (λ later j u. KeptOf later))
    unfolding changed_sequences told_committed
    sequences_kept old_ own h f = go (same_told other old_ m)
      where
        go : (b : Bool) → M own h (committed_unless b w.run q mail other m) (okay (λ later j u. KeptOf later))
        go true = meets_return (MayAsk w) AnyAsk {E = PlanFault} own h tt (okay (λ later j u. KeptOf later)) f
        go false =
            meets_then (MayAsk w) AnyAsk own h (sequences_replaced w.run q (text_of m)) (λ written. entries_committed w.run mail (suffix other) kept) (λ later j u. KeptOf later) (λ later j u. KeptOf later) (text_kept own h (text_of m) f)
            (λ later j u g. entries_kept later j g)

  -- the entries of the context
  abbrev Entries : Outcome (List NamedValue)
  Entries later j es = KeptOf later × ((context : List ℕ) × (es ≡ entries_in context))

  context_kept : (own : List Deed) (h : Hand) → KeptOf own → M own h (context_read mail) (okay Entries)
  unfolding context_read
  context_kept own h f =
      meets_read (MayAsk w) AnyAsk own h of_stop (okay Entries) mail context_name LIMIT_BYTES entries_by
      (λ may. (
        tt,
        (λ bytes. meets_return (MayAsk w) AnyAsk (did (step.Read mail context_name LIMIT_BYTES) (answer.Content bytes) ∷ own) h (entries_in bytes) (okay Entries) (between_kept own (step.Read mail context_name LIMIT_BYTES) (answer.Content bytes) may (tt, λ t e. cc (e)) f, (bytes, refl))),
        (λ l. meets_end (MayAsk w) AnyAsk (did (step.Read mail context_name LIMIT_BYTES) (answer.Long l) ∷ own) h (fault.TooLarge l) Entries),
        meets_return (MayAsk w) AnyAsk (did (step.Read mail context_name LIMIT_BYTES) answer.Gone ∷ own) h [] (okay Entries) (between_kept own (step.Read mail context_name LIMIT_BYTES) answer.Gone may (tt, λ t e. cc (e)) f, ([], sym no_entries)),
      ))

  known_kept : (own : List Deed) (h : Hand) (es : List NamedValue) → KeptOf own → M own h (known es) (okay (λ later j u. KeptOf later))
  unfolding Meets known
  known_kept own h es f = f

  -- what both texts tell
  abbrev Reads : Outcome Marked
  Reads later j m = KeptOf later × ((text : List ℕ) × (context : List ℕ) × (m ≡ sequences_in text (entries_in context) other))

  asks_reads : AsksOnly Between (sequences_read q)
  asks_reads = asks_text_read Between w.run q mail opens

  marks_kept : (own : List Deed) (h : Hand) → KeptOf own → M own h (marks_read q mail other) (okay Reads)
  unfolding marks_read
  marks_kept own h f =
      meets_then (MayAsk w) AnyAsk own h (sequences_read q) (λ text. context_read mail >>= (λ entries. known entries >>= (λ seen. Return (Ok (sequences_in text entries other))))) (λ later j (text : List ℕ). KeptOf later) Reads (quietly own h (sequences_read q) asks_reads f)
      (λ later j text g.
      meets_then (MayAsk w) AnyAsk later j (context_read mail) (λ entries. known entries >>= (λ seen. Return (Ok (sequences_in text entries other)))) Entries Reads (context_kept later j g)
      (λ next i entries k.
      meets_then (MayAsk w) AnyAsk next i (known entries) (λ seen. Return (Ok (sequences_in text entries other))) (λ end l u. KeptOf end) Reads (known_kept next i entries k.0)
      (λ end l u z.
      meets_return (MayAsk w) AnyAsk end l (sequences_in text entries other) (okay Reads) (z, (text, k.1.0, ap (λ es. sequences_in text es other) k.1.1)))))

  cut_kept : (own : List Deed) (h : Hand) (s : Settled) (text context : List ℕ) → KeptOf own → M own h (marks_cut w.run q mail other s (sequences_in text (entries_in context) other)) (okay (λ later j (o : Opened). KeptOf later))
  unfolding marks_cut
  cut_kept own h s text context f =
      meets_then (MayAsk w) AnyAsk own h (cut_committed w.run q mail other (sequences_in text (entries_in context) other) (numbers_settled w.run s))
      (λ cut. Return (Ok (opened_of q other (numbers_settled w.run s) (told_within (numbers_settled w.run s) text context other) s.ends))) (λ later j u. KeptOf later) (λ later j o. KeptOf later)
      (sequences_kept (told_within (numbers_settled w.run s) text context other) (told_valid (numbers_settled w.run s) text context other) (sequences_in text (entries_in context) other) own h f)
      (λ later j u g. meets_return (MayAsk w) AnyAsk later j (opened_of q other (numbers_settled w.run s) (told_within (numbers_settled w.run s) text context other) s.ends) (okay (λ last i o. KeptOf last)) g)

  -- the other folder is begun
  begun_kept : (own : List Deed) (h : Hand) → KeptOf own → M own h (begun w.run q mail other) (okay (λ later j o. KeptOf later))
  unfolding begun locked_begun settled_read
  begun_kept own h f =
      meets_then (MayAsk w) AnyAsk own h (folder_locked q) (λ held. mail_made mail >>= (λ made. put_back w.run q >>= (λ s. settled_read w.run q mail other s))) (λ later j u. KeptOf later) (λ later j o. KeptOf later)
      (quietly own h (folder_locked q) (asks_lock Between w.run q mail opens) f)
      (λ first j u a.
      meets_then (MayAsk w) AnyAsk first j (mail_made mail) (λ made. put_back w.run q >>= (λ s. settled_read w.run q mail other s)) (λ later k v. KeptOf later) (λ later k o. KeptOf later) (quietly first j (mail_made mail) (asks_mail Between w.run q mail opens) a)
      (λ second k v b.
      meets_then (MayAsk w) AnyAsk second k (put_back w.run q) (λ s. settled_read w.run q mail other s) (λ later i s. KeptOf later) (λ later i o. KeptOf later) (quietly second k (put_back w.run q) (asks_back Between w.run q mail opens) b)
      (λ third i s c.
      meets_then (MayAsk w) AnyAsk third i (cleared q s.names) (λ clear. marks_read q mail other >>= (λ m. marks_cut w.run q mail other s m)) (λ later l u. KeptOf later) (λ later l o. KeptOf later) (quietly third i (cleared q s.names) (asks_cleared Between q s.names opens.text.clear) c)
      (λ fourth l u d.
      meets_then (MayAsk w) AnyAsk fourth l (marks_read q mail other) (λ m. marks_cut w.run q mail other s m) Reads (λ later x o. KeptOf later) (marks_kept fourth l d)
      (λ last x m e. subst (λ z. M last x (marks_cut w.run q mail other s z) (okay (λ later y o. KeptOf later))) (sym e.1.2) (cut_kept last x s e.1.0 e.1.1 e.0))))))

  -- and where it is made before that
  pub made_kept : (own : List Deed) (h : Hand) → KeptOf own → M own h (made_begun w.run q mail other) (okay (λ later j o. KeptOf later))
  unfolding made_begun
  made_kept own h f =
      meets_make (MayAsk w) AnyAsk own h of_stop (okay (λ later j o. KeptOf later)) q (λ made. lifted once_made (begun w.run q mail other)) (λ may. (tt, then_begun answer.Done may, then_begun answer.Exists may))
    where
      then_begun : (a : Answer) → MayAsk w own (step.MakeFolder q) → M (did (step.MakeFolder q) a ∷ own) h (lifted once_made (begun w.run q mail other)) (okay (λ later j o. KeptOf later))
      then_begun a may =
          meets_lifted (MayAsk w) AnyAsk (did (step.MakeFolder q) a ∷ own) h once_made (begun w.run q mail other) (λ later j o. KeptOf later)
          (begun_kept (did (step.MakeFolder q) a ∷ own) h (between_kept own (step.MakeFolder q) a may (tt, λ t e. cc (e)) f))
