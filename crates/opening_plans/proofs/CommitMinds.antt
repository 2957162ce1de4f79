-- The commits of a folder's text and of the context mind all marks.
use Rattle.std.proofs.Common.{◌≡◌, ◌⊎◌, inl, inr, ◌∷◌, [], ℕ, Bool, true, false, List, refl, sym, ◌∙◌, ap, subst, nat_lt, length, bytes_eq}
use Rattle.std.specs.Prelude.{IfSome, Some, codes, if◌then◌else◌, Err}
use Rattle.mh_base.specs.Entries.{entry_text, kind_of}
use Rattle.mh_base.specs.Numbers.{IsMsgNum}
use Rattle.mh_base.specs.declared.entry.Entry.TheVariants.{Number, Sequences}
use Rattle.mh_base.proofs.EntryKinds.{kind_of-entry_text}
use Rattle.mh_profile.specs.declared.named_value.NamedValue.{NamedValue}
use Rattle.mh_profile.specs.Names.{is_attribute}
use Rattle.mh_profile.specs.Printing.{printed}
use Rattle.mh_profile.specs.Reading.{entries_in, entries_seen}
use Rattle.mh_sequences.specs.Printing.{private_entries, text_of}
use Rattle.mh_sequences.specs.Reading.{attribute, suffix}
use Rattle.mh_sequences.specs.Sequences.{AreSequences, Marked, member}
use Rattle.mh_sequences.proofs.ContextEntries.{valid_entries}
use Rattle.mh_sequences.proofs.Suffixes.{suffix_clean}
use Rattle.folder_files.specs.Careful.{HasLock}
use Rattle.folder_files.specs.Deeds.{Deed, WasDone, did}
use Rattle.folder_files.specs.Named.{is_committed}
use Rattle.folder_files.specs.declared.place.Place.{Place}
use Rattle.folder_files.specs.declared.place.Place.TheVariants.{Folder, Mail}
use Rattle.folder_files.specs.declared.step.Answer.{Answer}
use Rattle.folder_files.specs.declared.step.Answer.TheVariants as answer
use Rattle.folder_files.specs.declared.step.Step.{Step}
use Rattle.folder_files.specs.declared.step.Step.TheVariants as step
use Rattle.folder_files.proofs.Names.{bytes_false, not_both}
use Rattle.file_plans.specs.Plan.{Hand, Plan, Return}
use Rattle.step_plans.specs.ContextCommit.{AreChanges, LIMIT_BYTES, changed, commit_context, context_name}
use Rattle.step_plans.specs.Pledges.{MayAsk, Pledge}
use Rattle.step_plans.specs.Replacing.{replaced}
use Rattle.step_plans.specs.declared.change.ChangeEntry.{ChangeEntry}
use Rattle.step_plans.specs.declared.fault.PlanFault.{PlanFault}
use Rattle.step_plans.specs.declared.fault.PlanFault.TheVariants as fault
use Rattle.step_plans.proofs.Going.{Outcome, okay}
use Rattle.marks_law.specs.Apart.{IsSteady, by_text}
use Rattle.marks_law.specs.Apart as apart
use Rattle.marks_law.specs.Bearers.{Marking}
use Rattle.marks_law.specs.Minding.{KeepsMarks, Knowing, Minds, Sees, by_base, commits, keeps, replaces}
use Rattle.sequence_marks.specs.SequenceMarks.{private_marks, public_marks, says_private}
use Rattle.sequence_commits.specs.Committing.{changed_sequences, committed_unless, entries_committed, sequences_replaced, told_committed}
use Rattle.sequence_commits.specs.PrivateChanges.{changes_to}
use Rattle.sequence_commits.specs.Telling.{same_told}
use Rattle.sequence_commits.proofs.ChangesTo.{are_changes}
use Rattle.sequence_commits.proofs.SequencesPledged.{sequences_name}
use Rattle.opening_plans.proofs.AllMarks.{MindsAll}
use Rattle.opening_plans.proofs.CommitSeen.{Context, Synced, commit_meets, replaced_meets, synced_kept}
use Rattle.opening_plans.proofs.FolderEndings.{entries_of_folder, of_folder}
use Rattle.opening_plans.proofs.FolderSeen.{Quiet, Seen, quiet_seen, quiet_steady}
use Rattle.opening_plans.proofs.MarksWritten.{changes_give, changes_silent, entries_mark, marks_given, marks_stay, text_marks}
use Rattle.opening_plans.proofs.Meeting.{Meets, meets_end, meets_okay, meets_return, meets_then}

-- a folder that is this one, or whose sequences have other entries
abbrev pub IsTold : List ℕ → List ℕ → Type 0
IsTold folder other = (other ≡ folder) ⊎ (bytes_eq (suffix other) (suffix folder) ≡ false)

pub text_name : sequences_name ≡ codes ".mh_sequences"
unfolding entry_text
text_name = refl

folder_commits : (path folder : List ℕ) → is_committed (Folder path folder) sequences_name ≡ true
folder_commits path folder = rw (kind_of-entry_text Sequences tt) refl

pub one_mail : (a b c d : List ℕ) → Folder a b ≡ Folder c d → a ≡ c
one_mail a b c d e = cc (e)

pub one_folder : (a b c d : List ℕ) → Folder a b ≡ Folder c d → b ≡ d
one_folder a b c d e = cc (e)

mail_of : (a b : List ℕ) (s t x y : List ℕ) → step.Rename (Mail a) s x ≡ step.Rename (Mail b) t y → a ≡ b
mail_of a b s t x y e = cc (e)

-- the folder was made safe, and none of its messages was moved since
abbrev pub Steady : List ℕ → List ℕ → List Deed → Type 0
Steady path folder own = (sequence : List ℕ) → IsSteady (private_marks path folder sequence) own

-- each number of these sequences is such a name's
abbrev pub Within : (List ℕ → Type 0) → Marked → Type 0
Within There m = (z : List ℕ) (n : ℕ) (sequence : List ℕ) → kind_of z ≡ Number n → member m.users sequence n ≡ true → There z

module _ (w : Pledge) (path folder : List ℕ) where
  abbrev Of : List ℕ → Type 0
  Of other = IsTold folder other

  abbrev p : Place
  p = Folder path folder

  abbrev mail : Place
  mail = Mail path

  abbrev M : {R : Type 0} → List Deed → Hand → Plan R → Outcome R → Type 0
  M own h plan Q = Meets (MayAsk w) (MindsAll Of w.run) own h plan Q

  -- the folder's text is replaced by one whose numbers are there
  text_minds : (own : List Deed) (temp : List ℕ) (m : Marked) → AreSequences m.users → IfSome m.cur IsMsgNum → ((z : List ℕ) (n : ℕ) (sequence : List ℕ) → kind_of z ≡ Number n → member m.users sequence n ≡ true → Sees p z true own)
      → MayAsk w own (step.Rename p temp sequences_name) → WasDone (step.Create p temp (text_of m)) own → MindsAll Of w.run own (step.Rename p temp sequences_name)
  text_minds own temp m valid cur sees may created = record {
    public = λ other_mail other sequence c.
        subst (λ z. Minds w.run (public_marks z other sequence) (by_base w.run (public_marks z other sequence)) own (step.Rename p temp sequences_name)) (sym (one_mail other_mail other path folder c))
        (subst (λ z. Minds w.run (public_marks path z sequence) (by_base w.run (public_marks path z sequence)) own (step.Rename p temp sequences_name)) (sym (one_folder other_mail other path folder c)) (here sequence));
    private = λ other_mail other sequence is c. elim c [
      | inl f ↦ beside (private_marks other_mail other sequence) (by_text w.run (private_marks other_mail other sequence)) f (λ e. cc (e))
      | inr f ↦ let e = f.1 in absurd (cc (e))
    ];
    considerate = λ other_mail other sequence is other_temp e. absurd (cc (e));
  }
    where
      committed : is_committed p sequences_name ≡ true
      committed = folder_commits path folder

      here : (sequence : List ℕ) → Minds w.run (public_marks path folder sequence) (by_base w.run (public_marks path folder sequence)) own (step.Rename p temp sequences_name)
      here sequence =
          let marked = may.marks committed in
          subst (λ z. Minds w.run (public_marks path folder sequence) (by_base w.run (public_marks path folder sequence)) own (step.Rename p temp z)) (sym text_name)
          (commits {base = marked.old} {text = text_of m} (rw text_name at marked.is_base) created (λ y n kind says. inr (sees y n sequence kind (text_marks m valid cur sequence n says), tt)))

      beside : (k : Marking) (g : Knowing) → k.folder ≡ p → (k.place ≡ k.folder → ⊥) → Minds w.run k g own (step.Rename p temp sequences_name)
      beside k g e apart_ = subst (λ z. Minds w.run k g own (step.Rename z temp sequences_name)) e (replaces (subst (λ z. is_committed z sequences_name ≡ true) (sym e) committed) (λ same name. apart_ same))

  -- how a new context keeps the marks of a folder's sequence: it is this folder, whose marks are minded under its lock; or they stay the same
  abbrev Way : List Deed → List ℕ → List ℕ → List ℕ → List ℕ → List ℕ → Type 0
  Way own temp old text other sequence =
      ((other ≡ folder) × HasLock p own × Minds w.run (private_marks path folder sequence) (by_text w.run (private_marks path folder sequence)) own (step.Rename mail temp context_name))
      ⊎ ((n : ℕ) → says_private other sequence text n ≡ says_private other sequence old n)

  context_minds : (own : List Deed) (temp old text : List ℕ) → Context Of w path folder old own → WasDone (step.Create mail temp text) own → ((other sequence : List ℕ) → Of other → Way own temp old text other sequence)
      → MindsAll Of w.run own (step.Rename mail temp context_name)
  context_minds own temp old text known created ways = record {
    public = λ other_mail other sequence c. absurd (cc (c));
    private = λ other_mail other sequence is c. elim c [
      | inl f ↦ absurd (cc (f))
      | inr f ↦ at_mail other_mail other sequence (mail_of path other_mail temp f.0 context_name context_name f.1) (minded other sequence (ways other sequence is))
    ];
    considerate = λ other_mail other sequence is other_temp e.
        subst (λ z. HasLock (Folder z other) own ⊎ KeepsMarks w.run (private_marks z other sequence) other_temp own) (mail_of path other_mail temp other_temp context_name context_name e)
        (subst (λ t. HasLock (Folder path other) own ⊎ KeepsMarks w.run (private_marks path other sequence) t own) (one_temp other_mail other_temp e) (considered other sequence (ways other sequence is)));
  }
    where
      one_temp : (other_mail other_temp : List ℕ) → step.Rename mail temp context_name ≡ step.Rename (Mail other_mail) other_temp context_name → temp ≡ other_temp
      one_temp other_mail other_temp e = cc (e)

      at_mail : (other_mail other sequence : List ℕ) → path ≡ other_mail → Minds w.run (private_marks path other sequence) (by_text w.run (private_marks path other sequence)) own (step.Rename mail temp context_name)
          → Minds w.run (private_marks other_mail other sequence) (by_text w.run (private_marks other_mail other sequence)) own (step.Rename mail temp context_name)
      at_mail other_mail other sequence e f = subst (λ z. Minds w.run (private_marks z other sequence) (by_text w.run (private_marks z other sequence)) own (step.Rename mail temp context_name)) e f

      minded : (other sequence : List ℕ) → Way own temp old text other sequence → Minds w.run (private_marks path other sequence) (by_text w.run (private_marks path other sequence)) own (step.Rename mail temp context_name)
      minded other sequence (inl f) = subst (λ z. Minds w.run (private_marks path z sequence) (by_text w.run (private_marks path z sequence)) own (step.Rename mail temp context_name)) (sym f.0) f.2
      minded other sequence (inr same) = keeps (old, text, known.base, created, same)

      considered : (other sequence : List ℕ) → Way own temp old text other sequence → HasLock (Folder path other) own ⊎ KeepsMarks w.run (private_marks path other sequence) temp own
      considered other sequence (inl f) = inl (subst (λ z. HasLock (Folder path z) own) (sym f.0) f.1)
      considered other sequence (inr same) = inr (old, text, known.base, created, same)

  -- the context gets the entries of the folder's sequences, whose numbers are there
  pub entries_minds : (own : List Deed) (temp old : List ℕ) (m : Marked) (seen : List NamedValue) → AreSequences m.users → IfSome m.cur IsMsgNum
      → ((z : List ℕ) (n : ℕ) (sequence : List ℕ) → kind_of z ≡ Number n → member m.users sequence n ≡ true → Sees p z true own)
      → HasLock p own → Steady path folder own → Synced path folder own → Context Of w path folder old own
      → WasDone (step.Create mail temp (printed (changed (changes_to (suffix folder) (private_entries (suffix folder) m.users) seen) (entries_in old)))) own
      → MindsAll Of w.run own (step.Rename mail temp context_name)
  entries_minds own temp old m seen valid cur sees lock steady synced known created =
      context_minds own temp old (printed (changed cs (entries_in old))) known created (λ other sequence is. way other sequence is)
    where
      kept : List NamedValue
      kept = private_entries (suffix folder) m.users

      cs : List ChangeEntry
      cs = changes_to (suffix folder) kept seen

      ok : AreChanges cs
      ok = are_changes (suffix folder) kept seen (valid_entries (suffix folder) m.users (suffix_clean folder) valid)

      marked : (sequence y : List ℕ) (n : ℕ) → kind_of y ≡ Number n → says_private folder sequence (printed (changed cs (entries_in old))) n ≡ true → (says_private folder sequence old n ≡ true) ⊎ (Sees p y true own × IsSteady (private_marks path folder sequence) own)
      marked sequence y n kind says = let g = marks_given cs old folder sequence n ok says in elim g.1 [
        | inl f ↦ inr (sees y n sequence kind (entries_mark m valid cur folder sequence n g.0 (changes_give kept seen (suffix folder) sequence n f)), steady sequence)
        | inr f ↦ inl f
      ]

      way : (other sequence : List ℕ) → Of other → Way own temp old (printed (changed cs (entries_in old))) other sequence
      way other sequence (inl e) = inl (e, lock, commits {base = old} {text = printed (changed cs (entries_in old))} (known.text sequence, synced sequence) created (λ y n kind says. marked sequence y n kind says))
      way other sequence (inr e) = inr (λ n. marks_stay cs old other sequence n ok (λ named. changes_silent kept seen (suffix folder) (attribute (suffix other) sequence) (of_folder (suffix folder) other sequence named ∙ e) (entries_of_folder folder m.users valid)))

  -- the current folder is no sequence's
  pub other_minds : (own : List Deed) (temp old : List ℕ) (name value : List ℕ) → is_attribute name ≡ false → AreChanges (record { name = name; value = Some value } ∷ []) → Context Of w path folder old own
      → WasDone (step.Create mail temp (printed (changed (record { name = name; value = Some value } ∷ []) (entries_in old)))) own → MindsAll Of w.run own (step.Rename mail temp context_name)
  other_minds own temp old name value plain ok known created =
      context_minds own temp old (printed (changed (record { name = name; value = Some value } ∷ []) (entries_in old))) known created
      (λ other sequence is. inr (λ n. marks_stay (record { name = name; value = Some value } ∷ []) old other sequence n ok (λ named. (bytes_false name (attribute (suffix other) sequence) (λ e. not_both (is_attribute name) (ap is_attribute e) plain), tt))))

  -- what is known of the folder, and that the mail directory was synced
  abbrev pub Facts : List (List ℕ) → (List ℕ → Type 0) → List Deed → Type 0
  Facts names There own = Seen p names There own × Synced path folder own

  steady_kept : (own : List Deed) (s : Step) (a : Answer) → MayAsk w own s → Quiet p s → Steady path folder own → Steady path folder (did s a ∷ own)
  steady_kept own s a may quiet f sequence = quiet_steady w p (private_marks path folder sequence) refl own s a may quiet (f sequence)

  module _ (names : List (List ℕ)) (There : List ℕ → Type 0) (m : Marked) (valid : AreSequences m.users) (cur : IfSome m.cur IsMsgNum) (within : Within There m) where
    abbrev Known : List Deed → Type 0
    Known own = Facts names There own

    abbrev pub Held : List Deed → Type 0
    Held own = Seen p names There own × Steady path folder own

    known_kept : (own : List Deed) (s : Step) (a : Answer) → MayAsk w own s → Quiet p s → ((temp : List ℕ) → s ≡ step.Rename mail temp context_name → ⊥) → Known own → Known (did s a ∷ own)
    known_kept own s a may quiet none f = (quiet_seen w p names There own s a may quiet f.0, synced_kept Of w path folder own s a quiet none f.1)

    pub held_kept : (own : List Deed) (s : Step) (a : Answer) → MayAsk w own s → Quiet p s → Held own → Held (did s a ∷ own)
    held_kept own s a may quiet f = (quiet_seen w p names There own s a may quiet f.0, steady_kept own s a may quiet f.1)

    pub there : (own : List Deed) → Seen p names There own → (z : List ℕ) (n : ℕ) (sequence : List ℕ) → kind_of z ≡ Number n → member m.users sequence n ≡ true → Sees p z true own
    there own f z n sequence kind is = f.there z (within z n sequence kind is) (rw kind refl)

    -- the folder's text
    pub text_meets : (own : List Deed) (h : Hand) → Known own → M own h (sequences_replaced w.run p (text_of m)) (okay (λ later j u. Held later × Synced path folder later))
    unfolding sequences_replaced
    text_meets own h f = go (nat_lt LIMIT_BYTES (length (text_of m)))
      where
        go : (b : Bool) → M own h (if b then Return (Err (fault.TooLarge (length (text_of m)))) else replaced w.run p sequences_name (text_of m)) (okay (λ later j u. Held later × Synced path folder later))
        go true = meets_end (MayAsk w) (MindsAll Of w.run) own h (fault.TooLarge (length (text_of m))) (λ later j u. Held later × Synced path folder later)
        go false =
            replaced_meets Of w path folder p Known (λ before temp bytes a may g. known_kept before (step.Create p temp bytes) a may tt (λ t e. cc (e)) g) (λ before temp a may g. known_kept before (step.SyncFile p temp) a may tt (λ t e. cc (e)) g)
            own h sequences_name (text_of m) (λ later. Held later × Synced path folder later) f
            (λ later temp may g made. text_minds later temp m valid cur (there later g.0) may made)
            (λ later temp may g made may_sync.
            let renamed = did (step.Rename p temp sequences_name) answer.Done ∷ later in
            let one = known_kept later (step.Rename p temp sequences_name) answer.Done may (λ same. folder_commits path folder) (λ t e. cc (e)) g in
            let two = known_kept renamed (step.SyncFolder p) answer.Done may_sync tt (λ t e. cc (e)) one in
            ((two.0, (λ sequence. apart.synced refl one.0.lock)), two.1))

    -- and then the context
    entries_meet : (own : List Deed) (h : Hand) → Held own → Synced path folder own → M own h (entries_committed w.run mail (suffix folder) (private_entries (suffix folder) m.users)) (okay (λ later j u. Known later))
    unfolding Meets entries_committed
    entries_meet own h f s =
        meets_okay (MayAsk w) (MindsAll Of w.run) own h (commit_context w.run mail (changes_to (suffix folder) (private_entries (suffix folder) m.users) (entries_seen h.context))) (λ later j u. Held later × Synced path folder later) (λ later j u. Known later)
        (λ later j u g. (g.0.0, g.1))
        (commit_meets Of w path folder Held held_kept (λ before g. g.0.lock) (changes_to (suffix folder) (private_entries (suffix folder) m.users) (entries_seen h.context))
        (λ before temp old may g synced known made. entries_minds before temp old m (entries_seen h.context) valid cur (there before g.0) g.0.lock g.1 synced known made) own h f s)

    told_meets : (own : List Deed) (h : Hand) → Known own → M own h (told_committed w.run p mail (suffix folder) (text_of m) (private_entries (suffix folder) m.users)) (okay (λ later j u. Known later))
    unfolding told_committed
    told_meets own h f =
        meets_then (MayAsk w) (MindsAll Of w.run) own h (sequences_replaced w.run p (text_of m)) (λ written. entries_committed w.run mail (suffix folder) (private_entries (suffix folder) m.users)) (λ later j u. Held later × Synced path folder later) (λ later j u. Known later)
        (text_meets own h f) (λ later j u g. entries_meet later j g.0 g.1)

    -- new sequences, whose numbers are there, in place of others
    pub changed_meets : (own : List Deed) (h : Hand) (old_ : Marked) → Known own → M own h (changed_sequences w.run p mail folder old_ m) (okay (λ later j u. Known later))
    unfolding changed_sequences
    changed_meets own h old_ f = go (same_told folder old_ m)
      where
        go : (b : Bool) → M own h (committed_unless b w.run p mail folder m) (okay (λ later j u. Known later))
        go true = meets_return (MayAsk w) (MindsAll Of w.run) {E = PlanFault} own h tt (okay (λ later j u. Known later)) f
        go false = told_meets own h f
