-- Sequences of listed numbers are committed in place of those that were read: then the context marks no others.
use Rattle.std.proofs.Common.{◌≡◌, ◌||◌, ℕ, Bool, true, false, List, Option, Some, Result, Ok, Err, refl, sym, ◌∙◌, subst, nat_lt, length}
use Rattle.std.specs.Prelude.{IfSome, if◌then◌else◌}
use Rattle.mh_base.specs.Numbers.{IsMsgNum}
use Rattle.mail_headers.specs.Fields.{fields_of}
use Rattle.mh_profile.specs.declared.named_value.NamedValue.{NamedValue}
use Rattle.mh_profile.specs.Reading.{entries_in, entries_seen}
use Rattle.mh_sequences.specs.Names.{is_seq_name}
use Rattle.mh_sequences.specs.Printing.{private_entries, text_of}
use Rattle.mh_sequences.specs.Reading.{lists_private, lists_public, suffix}
use Rattle.mh_sequences.specs.Runs.{has}
use Rattle.mh_sequences.specs.Sequences.{AreSequences, Marked, member}
use Rattle.mh_sequences.specs.declared.run.Run.{Run}
use Rattle.folder_files.specs.Deeds.{Deed}
use Rattle.folder_files.specs.declared.place.Place.{Place}
use Rattle.folder_files.specs.declared.place.Place.TheVariants.{Folder, Mail}
use Rattle.folder_files.specs.declared.step.Step.{Step}
use Rattle.folder_files.specs.declared.step.Step.TheVariants as step
use Rattle.folder_files.proofs.Names.{both, not_both, or_last}
use Rattle.file_plans.specs.Framing.{AsksOnly}
use Rattle.file_plans.specs.Plan.{Hand, Plan, Return, ◌>>=◌}
use Rattle.file_plans.proofs.Framing.{asks_none, asks_then}
use Rattle.step_plans.specs.ContextCommit.{LIMIT_BYTES, commit_context, settled}
use Rattle.step_plans.specs.Pledges.{MayAsk, Pledge}
use Rattle.step_plans.specs.Replacing.{renamed, replaced, synced, written}
use Rattle.step_plans.specs.declared.change.ChangeEntry.{ChangeEntry}
use Rattle.step_plans.specs.declared.fault.PlanFault.{PlanFault}
use Rattle.step_plans.specs.declared.fault.PlanFault.TheVariants as fault
use Rattle.step_plans.proofs.Asks.{asks_renamed, asks_synced, asks_written}
use Rattle.step_plans.proofs.Going.{Outcome, okay}
use Rattle.sequence_marks.specs.SequenceMarks.{says_private}
use Rattle.sequence_marks.proofs.OtherEntries.{by_bool}
use Rattle.sequence_commits.specs.Committing.{changed_sequences, committed_unless, entries_committed, sequences_replaced, told_committed}
use Rattle.sequence_commits.specs.PrivateChanges.{changes_to}
use Rattle.sequence_commits.specs.Reading.{sequences_in}
use Rattle.sequence_commits.specs.Telling.{same_told}
use Rattle.sequence_commits.proofs.ReadOnce.{read_is, read_valid}
use Rattle.sequence_commits.proofs.ToldAlike.{told_same}
use Rattle.sequence_commits.proofs.SequencesPledged.{sequences_name}
use Rattle.opening_plans.specs.FolderPledge.{told_within}
use Rattle.opening_plans.proofs.AllMarks.{MindsAll}
use Rattle.opening_plans.proofs.CommitMinds.{Facts, Held, IsTold, Within, entries_minds, held_kept, text_meets, there}
use Rattle.opening_plans.proofs.CommitSeen.{NoCommit, Synced, commit_meets_so}
use Rattle.opening_plans.proofs.FolderSeen.{Quiet}
use Rattle.opening_plans.proofs.FreeMarks.{FreesOthers, FreesRead, commit_frees, free_kept, settled_frees}
use Rattle.opening_plans.proofs.HandKept.{meets_hand, text_keeps}
use Rattle.opening_plans.proofs.MarksWritten.{and_both}
use Rattle.opening_plans.proofs.Meeting.{Meets, meets_framed, meets_more, meets_okay, meets_return, meets_then}
use Rattle.opening_plans.proofs.ToldMarks.{read_cur, told_cur, told_listed, told_valid}

-- what the context marks is a member of what both texts tell
private_read : (text context folder sequence : List ℕ) (n : ℕ) → says_private folder sequence context n ≡ true → member (sequences_in text (entries_in context) folder).users sequence n ≡ true
private_read text context folder sequence n e =
    let parts = both (is_seq_name sequence) (lists_private (entries_in context) (suffix folder) sequence n) e in
    (read_is text (entries_in context) folder).numbers sequence n
    ∙ and_both (is_seq_name sequence) (lists_public (fields_of text) sequence n || lists_private (entries_in context) (suffix folder) sequence n) parts.0
    (or_last (lists_public (fields_of text) sequence n) (lists_private (entries_in context) (suffix folder) sequence n) parts.1)

-- where nothing was to be committed, it marks listed numbers alone
pub same_private : (listing : List Run) (text context folder : List ℕ) → same_told folder (sequences_in text (entries_in context) folder) (told_within listing text context folder) ≡ true
    → (sequence : List ℕ) (n : ℕ) → says_private folder sequence context n ≡ true → has listing n ≡ true
same_private listing text context folder same sequence n e =
    told_listed listing text context folder sequence n
    (subst (λ m. member m.users sequence n ≡ true)
    (told_same folder (sequences_in text (entries_in context) folder) (told_within listing text context folder) (read_valid text (entries_in context) folder) (told_valid listing text context folder) (read_cur text context folder)
    (told_cur listing text context folder) same)
    (private_read text context folder sequence n e))

-- a step that lets the folder's lock alone and commits no context
abbrev Between : List ℕ → List ℕ → Step → Type 0
Between path folder s = (s ≡ step.Unlock (Folder path folder) → ⊥) × NoCommit path s

module _ (w : Pledge) (path folder : List ℕ) (names : List (List ℕ)) (There : List ℕ → Type 0) (m : Marked) (valid : AreSequences m.users) (cur : IfSome m.cur IsMsgNum) (within : Within There m) (context : List ℕ) (listing : List Run)
    (listed : (sequence : List ℕ) (n : ℕ) → member m.users sequence n ≡ true → has listing n ≡ true) where
  abbrev Of : List ℕ → Type 0
  Of other = IsTold folder other

  abbrev p : Place
  p = Folder path folder

  abbrev mail : Place
  mail = Mail path

  abbrev M : {R : Type 0} → List Deed → Hand → Plan R → Outcome R → Type 0
  M own h plan Q = Meets (MayAsk w) (MindsAll Of w.run) own h plan Q

  abbrev seen : Option (List NamedValue)
  seen = Some (entries_in context)

  abbrev kept : List NamedValue
  kept = private_entries (suffix folder) m.users

  abbrev cs : List ChangeEntry
  cs = changes_to (suffix folder) kept (entries_in context)

  abbrev Reads : List Deed → Type 0
  Reads own = FreesRead w.run path folder context own

  abbrev Others : List Deed → Type 0
  Others own = FreesOthers w.run path folder listing own

  abbrev HeldSo : List Deed → Type 0
  HeldSo own = Held w path folder names There m valid cur within own

  abbrev Ends : Outcome Unit
  Ends later j u = Facts w path folder names There later × Others later

  quiet_no : (s : Step) → Quiet p s → s ≡ step.Unlock p → ⊥
  quiet_no s quiet e = (subst (λ z. Quiet p z) e quiet) refl

  -- the context's turn
  context_frees : (own : List Deed) (h : Hand) → h.context ≡ seen → HeldSo own → Synced path folder own → Reads own → M own h (commit_context w.run mail cs) (okay Ends)
  context_frees own h hand held synced_ frees =
      meets_okay (MayAsk w) (MindsAll Of w.run) own h (commit_context w.run mail cs) (λ later j u. (HeldSo later × Synced path folder later) × Others later) Ends (λ later j u g. ((g.0.0.0, g.0.1), g.1))
      (commit_meets_so Of w path folder HeldSo (held_kept w path folder names There m valid cur within) (λ before g. g.0.lock) cs
      (λ before temp old may g safe known made. entries_minds w path folder before temp old m (entries_in context) valid cur (there w path folder names There m valid cur within before g.0) g.0.lock g.1 safe known made)
      Reads Others
      (λ before s a may quiet none f sequence n e. free_kept w.run path folder sequence n before s a (quiet_no s quiet) none (f sequence n e))
      (λ before s a may quiet none f sequence n e. free_kept w.run path folder sequence n before s a (quiet_no s quiet) none (f sequence n e))
      (λ before temp old may g known made f. commit_frees w path folder context listing m valid cur listed before temp old may g.0.lock known.base made f)
      own h held synced_ frees (λ so. settled_frees w path folder context listing m valid cur listed own (subst (λ c. settled cs c ≡ true) hand so) frees))

  entries_free : (own : List Deed) (h : Hand) → h.context ≡ seen → HeldSo own → Synced path folder own → Reads own → M own h (entries_committed w.run mail (suffix folder) kept) (okay Ends)
  unfolding Meets entries_committed
  entries_free own h hand held synced_ frees =
      subst (λ c. M own h (commit_context w.run mail (changes_to (suffix folder) kept (entries_seen c))) (okay Ends)) (sym hand) (context_frees own h hand held synced_ frees)

  -- the folder's text before it
  text_asks : (text : List ℕ) → AsksOnly (Between path folder) (sequences_replaced w.run p text)
  unfolding sequences_replaced replaced
  text_asks text = go (nat_lt LIMIT_BYTES (length text))
    where
      go : (b : Bool) → AsksOnly (Between path folder) (if b then Return (Err (fault.TooLarge (length text))) else written w.run p text >>= (λ temp. renamed p temp sequences_name >>= (λ moved. synced p sequences_name)))
      go true = asks_none (Between path folder) (Err (fault.TooLarge (length text)))
      go false =
          asks_then (Between path folder) (written w.run p text) (λ temp. renamed p temp sequences_name >>= (λ moved. synced p sequences_name))
          (asks_written (Between path folder) w.run p text (λ temp bytes. ((λ e. cc (e)), (λ t e. cc (e)))) (λ temp. ((λ e. cc (e)), (λ t e. cc (e)))))
          (λ temp. asks_then (Between path folder) (renamed p temp sequences_name) (λ moved. synced p sequences_name) (asks_renamed (Between path folder) p temp sequences_name ((λ e. cc (e)), (λ t e. cc (e))))
          (λ moved. asks_synced (Between path folder) p sequences_name ((λ e. cc (e)), (λ t e. cc (e)))))

  abbrev Written : Outcome Unit
  Written later j u = (j.context ≡ seen) × (Reads later × (HeldSo later × Synced path folder later))

  text_free : (own : List Deed) (h : Hand) → h.context ≡ seen → Facts w path folder names There own → Reads own → M own h (sequences_replaced w.run p (text_of m)) (okay Written)
  text_free own h hand f frees =
      meets_more (MayAsk w) (MindsAll Of w.run) own h (sequences_replaced w.run p (text_of m)) (λ later j r. (j.context ≡ seen) × (Reads later × okay (λ last i u. HeldSo last × Synced path folder last) later j r)) (okay Written) both_so
      (meets_hand (MayAsk w) (MindsAll Of w.run) seen own h (sequences_replaced w.run p (text_of m)) (λ later j r. Reads later × okay (λ last i u. HeldSo last × Synced path folder last) later j r) hand (text_keeps seen w.run p (text_of m))
      (meets_framed (MayAsk w) (MindsAll Of w.run) (Between path folder) Reads (λ before s a may is g sequence n e. free_kept w.run path folder sequence n before s a is.0 is.1 (g sequence n e)) own h (sequences_replaced w.run p (text_of m))
      (okay (λ last i u. HeldSo last × Synced path folder last)) (text_asks (text_of m)) frees (text_meets w path folder names There m valid cur within own h f)))
    where
      both_so : (later : List Deed) (j : Hand) (r : Result Unit PlanFault) → (j.context ≡ seen) × (Reads later × okay (λ last i u. HeldSo last × Synced path folder last) later j r) → okay Written later j r
      both_so later j (Ok u) q = q
      both_so later j (Err e) q = tt

  told_free : (own : List Deed) (h : Hand) → h.context ≡ seen → Facts w path folder names There own → Reads own → M own h (told_committed w.run p mail (suffix folder) (text_of m) kept) (okay Ends)
  unfolding told_committed
  told_free own h hand f frees =
      meets_then (MayAsk w) (MindsAll Of w.run) own h (sequences_replaced w.run p (text_of m)) (λ done. entries_committed w.run mail (suffix folder) kept) Written Ends (text_free own h hand f frees)
      (λ later j u g. entries_free later j g.0 g.1.1.0 g.1.1.1 g.1.0)

  -- in place of others, of which nothing else is told where the context marks listed numbers alone
  pub frees_meet : (own : List Deed) (h : Hand) (old_ : Marked) → (same_told folder old_ m ≡ true → (sequence : List ℕ) (n : ℕ) → says_private folder sequence context n ≡ true → has listing n ≡ true) → h.context ≡ seen
      → Facts w path folder names There own → Reads own → M own h (changed_sequences w.run p mail folder old_ m) (okay (λ later j u. Facts w path folder names There later × FreesOthers w.run path folder listing later))
  unfolding changed_sequences
  frees_meet own h old_ same hand f frees = go (same_told folder old_ m) refl
    where
      others : same_told folder old_ m ≡ true → Others own
      others e sequence n unlisted = by_bool (says_private folder sequence context n) (λ t. absurd (not_both (has listing n) (same e sequence n t) unlisted)) (λ t. frees sequence n t)

      go : (b : Bool) → same_told folder old_ m ≡ b → M own h (committed_unless b w.run p mail folder m) (okay Ends)
      go true e = meets_return (MayAsk w) (MindsAll Of w.run) {E = PlanFault} own h tt (okay Ends) (f, others e)
      go false e = told_free own h hand f frees
