-- Commits of a run that is alone: what they make of the mailbox and of the context's entries.
use Rattle.std.proofs.Common.{◌≡◌, ◌⊎◌, inl, inr, ◌<◌, ◌^◌, ℕ, Bool, true, false, List, length, Option, Some, None, Result, Ok, Err, refl, sym, ◌∙◌, ap, subst}
use Rattle.std.specs.Prelude.{nat_lt}
use Rattle.mh_base.specs.Entries.{kind_of}
use Rattle.mh_profile.specs.Printing.{printed}
use Rattle.mh_profile.specs.declared.named_value.NamedValue.{NamedValue}
use Rattle.mh_sequences.specs.Printing.{private_entries, text_of}
use Rattle.mh_sequences.specs.Reading.{suffix}
use Rattle.mh_sequences.specs.Sequences.{Marked}
use Rattle.folder_files.specs.Named.{is_temp}
use Rattle.folder_files.specs.declared.place.Place.{Place}
use Rattle.folder_files.specs.declared.place.Place.TheVariants.{Folder, Mail}
use Rattle.file_plans.specs.Contents.{Contents, filled, mailbox_in}
use Rattle.file_plans.specs.Giving.{Gives}
use Rattle.file_plans.specs.MailboxChanges.{with_context_text}
use Rattle.file_plans.specs.Plan.{Hand}
use Rattle.file_plans.specs.Views.{View, by_view}
use Rattle.file_plans.proofs.Existing.{at_self}
use Rattle.file_plans.proofs.Giving.{gives_more}
use Rattle.file_plans.proofs.Onward.{Is, IsShort}
use Rattle.step_plans.specs.ContextCommit.{LIMIT_BYTES, AreChanges, changed, commit_context, context_name, says, settled}
use Rattle.step_plans.specs.Hands.{temp_name, used}
use Rattle.step_plans.specs.declared.change.ChangeEntry.{ChangeEntry}
use Rattle.step_plans.specs.declared.fault.PlanFault.{PlanFault}
use Rattle.step_plans.specs.declared.fault.PlanFault.TheVariants as fault
use Rattle.step_plans.proofs.Committed.{IsTooLong, Makes, committed_in, entries_at, knows_after, new_text, old_text, shows_committed, shows_refused, text_after}
use Rattle.step_plans.proofs.Named.{temp_is}
use Rattle.sequence_commits.specs.Committing.{changed_sequences}
use Rattle.sequence_commits.specs.PrivateChanges.{changes_to, private_changes}
use Rattle.mh_profile.specs.Reading.{entries_seen}
use Rattle.sequence_commits.specs.SequencesChanged.{with_sequences_text}
use Rattle.sequence_commits.specs.Telling.{same_told}
use Rattle.sequence_commits.proofs.SequencesGiven.{EntriesEnd, TextFails, ToldEnds, Unchanged, changed_gives, changes_by, context_kept as context_stays, needed_gives, with_sequences}
use Rattle.sequence_commits.proofs.SequencesShown.{shows_sequences}
use Rattle.opening_plans.specs.Kept.{Commits, Kept, all_made, context_kept, kept_of, sequences_kept, too_long}

-- these contents show this mailbox, and something else holds of them; the hand knows the context's entries, whose text is not too long
pub record Holds (F : Contents → Type 0) (path : List ℕ) (k : Kept) (c : Contents) (h : Hand) : Type 0 where
  pub shows : mailbox_in c ≡ k.mailbox
  pub entries : k.entries ≡ entries_at c (Mail path)
  pub known : h.context ≡ Some k.entries
  pub short : IsShort LIMIT_BYTES (c.texts (Mail path) context_name)
  pub still : F c

-- how commits end alone: all were made, and these are the contents; or a text was too long; or the run has no number left for a name
abbrev pub Ends : (Contents → Type 0) → List ℕ → List ℕ → Commits → View → Hand → Result Unit PlanFault → Type 0
Ends F path ns c z j (Ok u) = (c.long ≡ None) × ((d : Contents) × Is true ns z d × Holds F path c.kept d j)
Ends F path ns c z j (Err fault.Faulted) = ⊥
Ends F path ns c z j (Err (fault.Locked q)) = ⊥
Ends F path ns c z j (Err (fault.Meddled q x)) = ⊥
Ends F path ns c z j (Err fault.Full) = ⊥
Ends F path ns c z j (Err (fault.Absent q)) = ⊥
Ends F path ns c z j (Err (fault.TooLarge l)) = (c.long ≡ Some l) × (mailbox_in z.contents ≡ c.kept.mailbox)
Ends F path ns c z j (Err fault.Memory) = Unit {0}

-- a folder that is there, without temporary names
pub record IsClear (c : Contents) (p : Place) : Type 0 where
  pub there : c.there p ≡ true
  pub free : (x : List ℕ) → is_temp (kind_of x) ≡ true → c.texts p x ≡ None

same_some : {A : Type 0} {a b : A} → Some a ≡ Some b → a ≡ b
same_some e = cc (e)

-- a text that was read is not too long
pub never_long : {X : Type 0} (o : Option (List ℕ)) (text : List ℕ) → o ≡ Some text → nat_lt LIMIT_BYTES (length text) ≡ true → IsShort LIMIT_BYTES o → X
never_long None text is long short = cc (is)
never_long (Some other) text is long short = let same : other ≡ text = cc in absurd (let e : true ≡ false = sym long ∙ ap (λ t. nat_lt LIMIT_BYTES (length t)) (sym same) ∙ short in cc)

short_at : (o : Option (List ℕ)) (text : List ℕ) → o ≡ Some text → nat_lt LIMIT_BYTES (length text) ≡ false → IsShort LIMIT_BYTES o
short_at None text is short = tt
short_at (Some other) text is short = let same : other ≡ text = cc in subst (λ t. nat_lt LIMIT_BYTES (length t) ≡ false) (sym same) short

-- what the definitions come to
said_all : (path : List ℕ) (cs : List ChangeEntry) (k : Kept) → says k.entries cs ≡ true → context_kept path cs k ≡ all_made k
unfolding context_kept
said_all path cs k said = rw said refl

unsaid_short : (path : List ℕ) (cs : List ChangeEntry) (k : Kept) → says k.entries cs ≡ false → nat_lt LIMIT_BYTES (length (printed (changed cs k.entries))) ≡ false
    → context_kept path cs k ≡ all_made (kept_of (with_context_text k.mailbox (Mail path) (printed (changed cs k.entries))) (changed cs k.entries))
unfolding context_kept
unsaid_short path cs k unsaid short = rw (unsaid, short) refl

unsaid_long : (path : List ℕ) (cs : List ChangeEntry) (k : Kept) → says k.entries cs ≡ false → nat_lt LIMIT_BYTES (length (printed (changed cs k.entries))) ≡ true
    → context_kept path cs k ≡ too_long k (length (printed (changed cs k.entries)))
unfolding context_kept
unsaid_long path cs k unsaid long = rw (unsaid, long) refl

told_alike : (path folder : List ℕ) (old new : Marked) (k : Kept) → same_told folder old new ≡ true → sequences_kept path folder old new k ≡ all_made k
unfolding sequences_kept
told_alike path folder old new k same = rw same refl

told_long : (path folder : List ℕ) (old new : Marked) (k : Kept) → same_told folder old new ≡ false → nat_lt LIMIT_BYTES (length (text_of new)) ≡ true → sequences_kept path folder old new k ≡ too_long k (length (text_of new))
unfolding sequences_kept
told_long path folder old new k other long = rw (other, long) refl

told_short : (path folder : List ℕ) (old new : Marked) (k : Kept) → same_told folder old new ≡ false → nat_lt LIMIT_BYTES (length (text_of new)) ≡ false
    → sequences_kept path folder old new k ≡ context_kept path (private_changes folder new.users k.entries) (kept_of (with_sequences_text k.mailbox (Folder path folder) (text_of new)) k.entries)
unfolding sequences_kept
told_short path folder old new k other short = rw (other, short) refl

module _ (F : Contents → Type 0) (path : List ℕ) (ns : List ℕ) (still_context : (c : Contents) (cs : List ChangeEntry) → F c → F (committed_in c (Mail path) cs)) where
  abbrev mail : Place
  mail = Mail path

  -- the context's commit
  module _ (k : Kept) (c : Contents) (cs : List ChangeEntry) (changes : AreChanges cs) (shows : mailbox_in c ≡ k.mailbox) (entries : k.entries ≡ entries_at c mail) (short : IsShort LIMIT_BYTES (c.texts mail context_name)) (still : F c) where
    text_same : text_after c mail cs ≡ printed (changed cs k.entries)
    text_same = ap (λ es. printed (changed cs es)) (sym entries)

    said_by : (h : Hand) (b : Bool) → h.context ≡ Some k.entries → settled cs h.context ≡ b → says k.entries cs ≡ b
    said_by h b known e = sym (ap (settled cs) known) ∙ e

    made_stays : (h j : Hand) (z : View) → Makes true ns c mail cs h z j
        → Holds F path (kept_of (with_context_text k.mailbox mail (printed (changed cs k.entries))) (changed cs k.entries)) (committed_in c mail cs) j
    made_stays h j z m = record {
      shows = shows_committed c path cs ∙ (λ i. with_context_text (shows i) mail (text_same i));
      entries = sym same_entries ∙ knows_after true ns c mail cs h z j changes m refl m.entries known_;
      known = known_ ∙ ap (λ es. Some es) same_entries;
      short = short_at ((committed_in c mail cs).texts mail context_name) (text_after c mail cs) (rw (at_self mail context_name) refl) (m.new_short refl);
      still = still_context c cs still;
    }
      where
        known_ : j.context ≡ Some m.entries
        known_ = ap (λ i. i.context) m.hand

        same_entries : m.entries ≡ changed cs k.entries
        same_entries = m.same refl ∙ ap (changed cs) (sym entries)

    pub entries_end : (h j : Hand) (z : View) (left : List ℕ) (r : Result Unit PlanFault) → h.context ≡ Some k.entries → EntriesEnd true ns c mail cs h z j left r → Ends F path ns (context_kept path cs k) z j r
    entries_end h j z left (Ok u) known (inl s) =
        let w = said_all path cs k (said_by h true known s.settled_so) in
        subst (λ x. Ends F path ns x z j (Ok tt)) (sym w) (refl, (c, s.is, record { shows = shows; entries = entries; known = ap (λ i. i.context) s.hand ∙ known; short = short; still = still }))
    entries_end h j z left (Ok u) known (inr (need, m)) =
        let w = unsaid_short path cs k (said_by h false known need) (sym (ap (λ t. nat_lt LIMIT_BYTES (length t)) text_same) ∙ m.new_short refl) in
        subst (λ x. Ends F path ns x z j (Ok tt)) (sym w) (refl, (committed_in c mail cs, m.is, made_stays h j z m))
    entries_end h j z left (Err fault.Faulted) known (need, f) = f
    entries_end h j z left (Err (fault.Locked q)) known (need, f) = f refl
    entries_end h j z left (Err (fault.Meddled q x)) known (need, f) = f refl
    entries_end h j z left (Err fault.Full) known (need, f) = f
    entries_end h j z left (Err (fault.Absent q)) known (need, f) = f
    entries_end h j z left (Err (fault.TooLarge l)) known (need, f) = by_long (f.long refl)
      where
        by_long : IsTooLong c mail cs l → Ends F path ns (context_kept path cs k) z j (Err (fault.TooLarge l))
        by_long (old_text text there long is) = never_long (c.texts mail context_name) text there long short
        by_long (new_text old long is) =
            let w = unsaid_long path cs k (said_by h false known need) (sym (ap (λ t. nat_lt LIMIT_BYTES (length t)) text_same) ∙ long) in
            subst (λ x. Ends F path ns x z j (Err (fault.TooLarge l))) (sym w) (ap (λ n. Some n) (sym (is ∙ ap length text_same)), ap mailbox_in (f.is.0 refl) ∙ (shows_refused c path ∙ shows))
    entries_end h j z left (Err fault.Memory) known (need, f) = tt

  -- a commit of the context, alone
  pub context_ends : (run : ℕ) → run < 2 ^ 128 → (cs : List ChangeEntry) → AreChanges cs → (k : Kept) (c : Contents) (z : View) (j : Hand) (out : List ℕ) → Is true ns z c → Holds F path k c j
      → Gives (by_view true) z j out (commit_context run mail cs) (λ y i left r. Ends F path ns (context_kept path cs k) y i r)
  context_ends run few cs changes k c z j out is s =
      gives_more (by_view true) z j out (commit_context run mail cs) (EntriesEnd true ns c mail cs j) (λ y i left r. Ends F path ns (context_kept path cs k) y i r)
      (needed_gives true ns run few mail cs z c j out is (λ e es seen. same_some (sym seen ∙ s.known) ∙ s.entries))
      (λ y i left r f. entries_end k c cs changes s.shows s.entries s.short s.still j i y left r s.known f)

  -- a commit of the folder's sequences, alone
  module _ (run : ℕ) (few : run < 2 ^ 128) (folder : List ℕ) (old new : Marked) (changes : (entries : List NamedValue) → AreChanges (private_changes folder new.users entries))
      (still_text : (c : Contents) (text : List ℕ) → F c → F (with_sequences c (Folder path folder) text)) where
    abbrev p : Place
    p = Folder path folder

    abbrev pub After : Contents → Hand → View → Hand → List ℕ → Result Unit PlanFault → Type 0
    After c h z j left r =
        ((same_told folder old new ≡ true) × Unchanged true ns c h z j r)
        ⊎ ((same_told folder old new ≡ false) × ToldEnds true ns c p mail (suffix folder) (text_of new) (private_entries (suffix folder) new.users) h z j left r)

    module _ (k : Kept) (c : Contents) (h : Hand) (s : Holds F path k c h) where
      abbrev next : Kept
      next = kept_of (with_sequences_text k.mailbox p (text_of new)) k.entries

      abbrev d : Contents
      d = with_sequences c p (text_of new)

      abbrev cs : List ChangeEntry
      cs = private_changes folder new.users k.entries

      changes_same : changes_by (suffix folder) (private_entries (suffix folder) new.users) h ≡ cs
      changes_same = ap (λ o. changes_to (suffix folder) (private_entries (suffix folder) new.users) (entries_seen o)) s.known

      shows_next : mailbox_in d ≡ next.mailbox
      shows_next = shows_sequences c path folder (text_of new) ∙ ap (λ m. with_sequences_text m p (text_of new)) s.shows

      entries_next : k.entries ≡ entries_at d mail
      entries_next = s.entries ∙ ap (λ o. Rattle.mh_profile.specs.Reading.entries_in (filled o)) (sym (context_stays c p mail (text_of new)))

      short_next : IsShort LIMIT_BYTES (d.texts mail context_name)
      short_next = subst (IsShort LIMIT_BYTES) (sym (context_stays c p mail (text_of new))) s.short

      context_then : same_told folder old new ≡ false → nat_lt LIMIT_BYTES (length (text_of new)) ≡ false → (z : View) (j : Hand) (left : List ℕ) (r : Result Unit PlanFault)
          → EntriesEnd true ns d mail (changes_by (suffix folder) (private_entries (suffix folder) new.users) h) (used h) z j left r → Ends F path ns (sequences_kept path folder old new k) z j r
      context_then other short z j left r f =
          subst (λ x. Ends F path ns x z j r) (sym (told_short path folder old new k other short))
          (entries_end next d cs (changes k.entries) shows_next entries_next short_next (still_text c (text_of new) s.still) (used h) j z left r s.known
          (subst (λ x. EntriesEnd true ns d mail x (used h) z j left r) changes_same f))

      text_then : same_told folder old new ≡ false → (z : View) (j : Hand) (e : PlanFault) → TextFails true ns c (text_of new) h z j e → Ends F path ns (sequences_kept path folder old new k) z j (Err e)
      text_then other z j fault.Faulted (inl f) = f
      text_then other z j (fault.Locked q) (inl f) = f refl
      text_then other z j (fault.Meddled q x) (inl f) = f refl
      text_then other z j fault.Full (inl f) = f
      text_then other z j (fault.Absent q) (inl f) = f
      text_then other z j (fault.TooLarge l) (inl f) = absurd f
      text_then other z j fault.Memory (inl f) = tt
      text_then other z j e (inr f) =
          subst (λ q. Ends F path ns (sequences_kept path folder old new k) z j (Err q)) (sym f.fault)
          (subst (λ x. Ends F path ns x z j (Err (fault.TooLarge (length (text_of new))))) (sym (told_long path folder old new k other f.long)) (refl, ap mailbox_in (f.left.is.0 refl) ∙ s.shows))

      pub after_ends : (z : View) (j : Hand) (left : List ℕ) (r : Result Unit PlanFault) → After c h z j left r → Ends F path ns (sequences_kept path folder old new k) z j r
      after_ends z j left r (inl (same, u)) =
          subst (λ q. Ends F path ns (sequences_kept path folder old new k) z j q) (sym u.done)
          (subst (λ x. Ends F path ns x z j (Ok tt)) (sym (told_alike path folder old new k same))
          (refl, (c, u.left.is, record { shows = s.shows; entries = s.entries; known = ap (λ i. i.context) u.left.hand ∙ s.known; short = s.short; still = s.still })))
      after_ends z j left (Ok u) (inr (other, f)) = context_then other f.0 z j left (Ok tt) f.1
      after_ends z j left (Err e) (inr (other, inl f)) = text_then other z j e f
      after_ends z j left (Err e) (inr (other, inr f)) = context_then other f.0 z j left (Err e) f.1

      pub sequences_end : (v : View) → Is true ns v c → IsClear c p → (out : List ℕ) → Gives (by_view true) v h out (changed_sequences run p mail folder old new) (λ y i left r. Ends F path ns (sequences_kept path folder old new k) y i r)
      sequences_end v is clear out =
          gives_more (by_view true) v h out (changed_sequences run p mail folder old new) (After c h) (λ y i left r. Ends F path ns (sequences_kept path folder old new k) y i r)
          (changed_gives true ns run few p mail folder old new v c h out is (λ e es seen. same_some (sym seen ∙ s.known) ∙ s.entries) (λ low e. (clear.there, clear.free (temp_name run h.next) (temp_is run h.next few low))))
          after_ends
