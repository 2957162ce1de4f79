-- What a folder that is begun alone comes to.
use Rattle.std.proofs.Common.{◌≡◌, inl, inr, ◌<◌, ◌^◌, ◌||◌, ℕ, Bool, true, false, List, [], bytes_eq, Option, Some, None, Result, Ok, Err, refl, sym, ◌∙◌, ap, subst}
use Rattle.std.specs.Prelude.{is_some, option_map}
use Rattle.std.proofs.lemmas.Slice.Eq.{bytes_eq-Decides}
use Rattle.mh_base.specs.Entries.{kind_of}
use Rattle.mh_profile.specs.declared.named_value.NamedValue.{NamedValue}
use Rattle.mh_sequences.specs.Printing.{text_of, private_entries}
use Rattle.mh_sequences.specs.Runs.{AreRuns, has}
use Rattle.mh_sequences.specs.Sequences.{AreSequences, Marked}
use Rattle.mh_sequences.specs.declared.run.Run.{Run}
use Rattle.mh_sequences.proofs.Same.{same_runs}
use Rattle.folder_files.specs.Named.{is_temp}
use Rattle.folder_files.specs.Places.{is_parent, same_place}
use Rattle.folder_files.specs.declared.place.Place.{Place}
use Rattle.folder_files.specs.declared.place.Place.TheVariants.{Folder, Mail}
use Rattle.folder_files.specs.declared.refusal.Refusal.TheVariants as refusal
use Rattle.folder_files.proofs.Names.{or_last}
use Rattle.folder_files.proofs.Sameness.{place_is}
use Rattle.file_plans.specs.Contents.{Contents, IsListingIn, filled, folder_at, mailbox_in, with_folder}
use Rattle.file_plans.specs.Mailboxes.{Folder as FolderValue, Mailbox}
use Rattle.file_plans.specs.Plan.{Hand}
use Rattle.file_plans.specs.Views.{View, first_view}
use Rattle.file_plans.proofs.Onward.{Is, IsShort}
use Rattle.step_plans.specs.ContextCommit.{LIMIT_BYTES, AreChanges, context_name, says}
use Rattle.step_plans.specs.declared.change.ChangeEntry.{ChangeEntry}
use Rattle.step_plans.specs.declared.command_fault.CommandFault.{CommandFault}
use Rattle.step_plans.specs.declared.command_fault.CommandFault.TheVariants as fault
use Rattle.step_plans.specs.declared.fault.PlanFault.{PlanFault}
use Rattle.step_plans.specs.declared.fault.PlanFault.TheVariants as plan
use Rattle.step_plans.proofs.Committed.{committed_in, entries_at, opened, IsTooLong}
use Rattle.held_messages.specs.HeldPairs.{held_pairs, homes, with_folder_changed}
use Rattle.held_messages.specs.Highest.{highest}
use Rattle.held_messages.specs.Settle.{Settled, linked_in}
use Rattle.held_messages.proofs.Homecoming.{AreEnds, dropped_place, linked_place}
use Rattle.held_messages.proofs.Telling.{TellsHeld, taken_in}
use Rattle.sequence_commits.specs.Cutting.{cut_to}
use Rattle.sequence_commits.specs.PrivateChanges.{private_changes}
use Rattle.sequence_commits.specs.Reading.{sequences_in}
use Rattle.sequence_commits.proofs.RunTests.{all_has, all_runs, none_outside}
use Rattle.sequence_commits.proofs.SequencesGiven.{with_sequences}
use Rattle.sequence_commits.proofs.SequencesPledged.{sequences_name}
use Rattle.sequence_commits.proofs.SequencesShown.{sequences_no_temp}
use Rattle.command_stages.specs.Texts.{too_large}
use Rattle.command_stages.specs.Works.{Work, readable, refused_at}
use Rattle.opening_plans.specs.BegunWork.{AreHomes, Homes, after_commits, begun_work, cut_work, folder_work, runs_in, settled_by, text_work}
use Rattle.opening_plans.specs.Existing.{numbers_settled}
use Rattle.opening_plans.specs.Kept.{Commits, Kept, kept_of, sequences_kept}
use Rattle.opening_plans.specs.Opening.{Opened, opened_of}
use Rattle.opening_plans.proofs.ExistingNumbers.{in_range_or}
use Rattle.opening_plans.proofs.FolderGiven.{CutEnds, IsBegunIn, IsLongBy, IsLongText, begun_contents, new_context, new_text, old_context, old_text}
use Rattle.opening_plans.proofs.KeptGiven.{Ends, Holds, IsClear, after_ends, never_long, After}
use Rattle.opening_plans.proofs.KeptMessages.{message_at, message_of, sequences_messages}
use Rattle.opening_plans.proofs.SettledShown.{context_same, entries_same, held_are, listing_is, shows, text_same, there_shown, top_is}
use Rattle.std.specs.List.{list_all}
use Rattle.mail_headers.specs.Lines.{is_name_byte}
use Rattle.mh_sequences.specs.Reading.{suffix}
use Rattle.mh_sequences.proofs.ContextEntries.{valid_entries}
use Rattle.sequence_commits.proofs.ChangesTo.{are_changes}
use Rattle.sequence_commits.proofs.CutOnce.{cut_valid}

-- the folder stays clear whatever is committed
pub clear_context : (path folder : List ℕ) (c : Contents) (cs : List ChangeEntry) → IsClear c (Folder path folder) → IsClear (committed_in c (Mail path) cs) (Folder path folder)
clear_context path folder c cs f = record {
  there = or_last (same_place (Mail path) (Folder path folder) || is_parent (Folder path folder) (Mail path)) (c.there (Folder path folder)) f.there;
  free = λ x t. f.free x t;
}

pub clear_text : (path folder : List ℕ) (c : Contents) (text : List ℕ) → IsClear c (Folder path folder) → IsClear (with_sequences c (Folder path folder) text) (Folder path folder)
clear_text path folder c text f = record { there = f.there; free = λ x t. go x t (bytes_eq sequences_name x) refl }
  where
    go : (x : List ℕ) → is_temp (kind_of x) ≡ true → (b : Bool) → bytes_eq sequences_name x ≡ b → (with_sequences c (Folder path folder) text).texts (Folder path folder) x ≡ None
    go x t true e = absurd (let no : true ≡ false = sym t ∙ ap (λ n. is_temp (kind_of n)) (sym ((bytes_eq-Decides sequences_name x).0 e)) ∙ sequences_no_temp in cc (no))
    go x t false e = rw (place_is (Folder path folder), e) (f.free x t)

module _ (run : ℕ) (few : run < 2 ^ 128) (path folder ns : List ℕ) (c : Contents) (entries : List NamedValue) (entries_are : entries ≡ entries_at c (Mail path)) (short : IsShort LIMIT_BYTES (c.texts (Mail path) context_name))
    (clean : list_all is_name_byte (suffix folder) ≡ true) where
  abbrev p : Place
  p = Folder path folder

  abbrev made : Contents
  made = with_folder c (Mail path)

  abbrev old : FolderValue
  old = folder_at c p

  -- a folder that was settled
  module _ (s : Settled) (there : c.there p ≡ true) (listing : IsListingIn made p s.names) (holds : TellsHeld made p s.names) (ends_so : AreEnds (held_pairs run s.names) s.ends)
      (homes_so : s.ends ≡ homes (taken_in made p) (highest s.names) (held_pairs run s.names)) where
    abbrev h : Homes
    h = record { pairs = held_pairs run s.names; ends = s.ends }

    abbrev d : Contents
    d = begun_contents true ns run few path folder c s

    pub homes_are : AreHomes run old h
    homes_are = record {
      held = held_are run few path folder ns c s listing holds ends_so homes_so;
      highest = highest s.names;
      top = top_is run few path folder ns c s listing holds ends_so homes_so;
      ends = homes_so;
    }

    numbers_are : numbers_settled run s ≡ runs_in (settled_by h old)
    unfolding numbers_settled
    numbers_are = same_runs (numbers_settled run s) (runs_in (settled_by h old)) (all_runs _) (all_runs (λ n. is_some ((settled_by h old).messages n))) same
      where
        told : (n : ℕ) → has (numbers_settled run s) n ≡ is_some ((settled_by h old).messages n)
        told = listing_is run few path folder ns c s listing holds ends_so homes_so

        same : (n : ℕ) → has (numbers_settled run s) n ≡ has (runs_in (settled_by h old)) n
        same n = elim (in_range_or n) [
          | inl l ↦ told n ∙ sym (all_has (λ k. is_some ((settled_by h old).messages k)) n l.0 l.1)
          | inr o ↦ none_outside (numbers_settled run s) n (all_runs _) o ∙ sym (none_outside (runs_in (settled_by h old)) n (all_runs (λ k. is_some ((settled_by h old).messages k))) o)
        ]

    abbrev box : Mailbox
    box = with_folder_changed (mailbox_in c) p (settled_by h)

    -- each number of the folder has a message there
    box_messages : (n : ℕ) → message_at box p n ≡ (settled_by h old).messages n
    unfolding mailbox_in
    box_messages n = rw (place_is p) (ap (λ o. message_of (option_map (settled_by h) o) n) (there_shown c p (c.there p) there))

    stands_box : (n : ℕ) → is_some (message_at box p n) ≡ has (runs_in (settled_by h old)) n
    stands_box n = ap is_some (box_messages n) ∙ (sym (listing_is run few path folder ns c s listing holds ends_so homes_so n) ∙ ap (λ l. has l n) numbers_are)

    shows_d : mailbox_in d ≡ box
    shows_d = shows run few path folder ns c s listing holds ends_so homes_so

    entries_d : entries ≡ entries_at d (Mail path)
    entries_d = entries_are ∙ sym (entries_same run few path folder ns c s listing holds ends_so homes_so)

    short_d : IsShort LIMIT_BYTES (d.texts (Mail path) context_name)
    short_d = subst (IsShort LIMIT_BYTES) (sym (context_same run few path folder ns c s listing holds ends_so homes_so)) short

    text_d : d.texts p sequences_name ≡ old.sequences
    text_d = text_same run few path folder ns c s listing holds ends_so homes_so

    -- the sequences that are read
    abbrev read : Marked
    read = sequences_in (filled old.sequences) entries folder

    abbrev cut : Marked
    cut = cut_to (runs_in (settled_by h old)) read

    abbrev commits : Commits
    commits = sequences_kept path folder read cut (kept_of box entries)

    module _ (next : List Run → Marked → Kept → Work CommandFault) where
      abbrev whole : Work CommandFault
      whole = begun_work path folder entries h (mailbox_in c) next

      whole_there : whole ≡ text_work path folder entries (runs_in (settled_by h old)) box (readable old.sequences) next
      unfolding begun_work mailbox_in
      whole_there = ap (λ o. folder_work path folder entries h (mailbox_in c) o next) (there_shown c p (c.there p) there)

      whole_text : (text : List ℕ) → readable old.sequences ≡ Ok text → text ≡ filled old.sequences → whole ≡ after_commits commits (next (runs_in (settled_by h old)) cut)
      whole_text text reads is =
          whole_there ∙ ap (λ r. text_work path folder entries (runs_in (settled_by h old)) box r next) reads
          ∙ ap (λ t. cut_work path folder (runs_in (settled_by h old)) (sequences_in t entries folder) (kept_of box entries) next) is

      whole_unread : (e : CommandFault) → readable old.sequences ≡ Err e → whole ≡ refused_at box e
      whole_unread e reads = whole_there ∙ ap (λ r. text_work path folder entries (runs_in (settled_by h old)) box r next) reads

      after_long : (l : ℕ) → commits.long ≡ Some l → after_commits commits (next (runs_in (settled_by h old)) cut) ≡ refused_at commits.kept.mailbox (too_large l)
      after_long l is = rw is refl

      after_all : commits.long ≡ None → after_commits commits (next (runs_in (settled_by h old)) cut) ≡ next (runs_in (settled_by h old)) cut commits.kept
      after_all is = rw is refl

    -- a text that was read is not too long
    reads_short : (o : Option (List ℕ)) → IsShort LIMIT_BYTES o → readable o ≡ Ok (filled o)
    reads_short None f = refl
    reads_short (Some text) f = rw f refl

    reads_long : (o : Option (List ℕ)) (l : ℕ) → IsLongText o l → readable o ≡ Err (too_large l)
    reads_long o l t = subst (λ x. readable x ≡ Err (too_large l)) (sym t.there) (rw t.long (ap (λ n. Err (too_large n)) (sym t.is)))

    -- all that is known of the contents after settling
    places_d : d.there ≡ made.there
    places_d = dropped_place (linked_in made p (held_pairs run s.names) s.ends) p (held_pairs run s.names) s.ends ∙ linked_place made p (held_pairs run s.names) s.ends

    holds_d : (j : Hand) → j.context ≡ Some entries → Holds (λ e. IsClear e p) path (kept_of box entries) d j
    holds_d j known = record { shows = shows_d; entries = entries_d; known = known; short = short_d; still = record { there = there_d; free = free_d } }
      where
        there_d : d.there p ≡ true
        there_d = ap (λ t. t p) places_d ∙ or_last (same_place (Mail path) p || is_parent p (Mail path)) (c.there p) there

        free_d : (x : List ℕ) → is_temp (kind_of x) ≡ true → d.texts p x ≡ None
        free_d x t = rw (place_is p, t) refl

    read_d : sequences_in (filled (d.texts p sequences_name)) (entries_at d (Mail path)) folder ≡ read
    read_d = λ i. sequences_in (filled (text_d i)) (sym entries_d i) folder

    -- the cut's commit
    changes_valid : (es : List NamedValue) → AreChanges (private_changes folder cut.users es)
    changes_valid es = are_changes (suffix folder) (private_entries (suffix folder) cut.users) es (valid_entries (suffix folder) cut.users clean (cut_valid (runs_in (settled_by h old)) read))

    abbrev CutAfter : List ℕ → Hand → View → Hand → List ℕ → Result Unit PlanFault → Type 0
    CutAfter later i z j left r = After (λ e. IsClear e p) path later (clear_context path folder) run few folder read cut changes_valid (clear_text path folder) d i z j left r

    cut_ends : (later : List ℕ) (i : Hand) (z : View) (j : Hand) (left : List ℕ) (r : Result Unit PlanFault) → i.context ≡ Some entries → CutAfter later i z j left r → Ends (λ e. IsClear e p) path later commits z j r
    cut_ends later i z j left r known f =
        after_ends (λ e. IsClear e p) path later (clear_context path folder) run few folder read cut changes_valid (clear_text path folder) (kept_of box entries) d i (holds_d i known) z j left r f

    -- a text was too long
    abbrev IsLong : ℕ → Contents → Type 0
    IsLong l z = IsLongBy p (Mail path) folder (runs_in (settled_by h old)) d read l z

    module _ (next : List Run → Marked → Kept → Work CommandFault) (l : ℕ) (z : Contents) where
      abbrev Refuses : Type 0
      Refuses = begun_work path folder entries h (mailbox_in c) next ≡ refused_at (mailbox_in z) (too_large l)

      at_box : z ≡ d → refused_at box (too_large l) ≡ refused_at (mailbox_in z) (too_large l)
      at_box same = ap (λ m. refused_at m (too_large l)) (sym (ap mailbox_in same ∙ shows_d))

      by_commit : IsShort LIMIT_BYTES (d.texts p sequences_name) → (commits.long ≡ Some l) × (mailbox_in z ≡ commits.kept.mailbox) → Refuses
      by_commit text_short f =
          whole_text next (filled old.sequences) (reads_short old.sequences (subst (IsShort LIMIT_BYTES) text_d text_short)) refl
          ∙ (after_long next l f.0 ∙ ap (λ m. refused_at m (too_large l)) (sym f.1))

      -- a view and a hand in which nothing else matters
      abbrev at_z : View
      at_z = first_view z [] (λ q x. false)

      abbrev i : Hand
      i = record { next = 0; context = Some entries }

      by_cases : IsLong l z → Refuses
      by_cases (old_text t same) = whole_unread next (too_large l) (reads_long old.sequences l (subst (λ o. IsLongText o l) text_d t)) ∙ at_box same
      by_cases (old_context t same) = never_long (d.texts (Mail path) context_name) t.text t.there t.long short_d
      by_cases (new_text short_ other long is same) =
          by_commit short_ (cut_ends [] i at_z i [] (Err (plan.TooLarge l)) refl (inr (other, inl (inr (record { left = record { is = ((λ e. same), refl); hand = refl }; long = long; fault = ap plan.TooLarge is })))))
      by_cases (new_context short_text other short_ unsaid long same) =
          by_commit short_text (cut_ends [] i at_z i [] (Err (plan.TooLarge l)) refl (inr (other, inr (short_, (unsaid_, record { is = ((λ e. same_), refl); long = λ a. long_ })))))
        where
          unsaid_ : says entries (private_changes folder cut.users entries) ≡ false
          unsaid_ = ap (λ es. says es (private_changes folder cut.users es)) entries_d ∙ unsaid

          same_ : z ≡ opened (with_sequences d p (text_of cut)) (Mail path)
          same_ = same

          long_ : IsTooLong (with_sequences d p (text_of cut)) (Mail path) (private_changes folder cut.users entries) l
          long_ = subst (λ es. IsTooLong (with_sequences d p (text_of cut)) (Mail path) (private_changes folder cut.users es) l) (sym entries_d) long

    -- what was read, and how the cut came out
    pub long_work : (next : List Run → Marked → Kept → Work CommandFault) (l : ℕ) (z : Contents)
        → IsLongBy p (Mail path) folder (numbers_settled run s) d (sequences_in (filled (d.texts p sequences_name)) (entries_at d (Mail path)) folder) l z
        → begun_work path folder entries h (mailbox_in c) next ≡ refused_at (mailbox_in z) (too_large l)
    long_work next l z long =
        by_cases next l z (subst (λ x. IsLongBy p (Mail path) folder x d read l z) numbers_are (subst (λ x. IsLongBy p (Mail path) folder (numbers_settled run s) d x l z) read_d long))

  -- a folder that was begun: it is this one, and the command goes on with its messages and its sequences where these contents are
  pub record IsBegunAs (h : Homes) (next : List Run → Marked → Kept → Work CommandFault) (o : Opened) (z : View) (j : Hand) : Type 0 where
    pub place : o.place ≡ p
    pub name : o.folder ≡ folder
    pub kept : Kept
    pub contents : Contents
    pub later : List ℕ
    pub is : Is true later z contents
    pub holds : Holds (λ e. IsClear e p) path kept contents j
    pub work : begun_work path folder entries h (mailbox_in c) next ≡ next o.listing o.sequences kept
    pub valid : AreSequences o.sequences.users
    pub runs : AreRuns o.listing
    pub stands : (n : ℕ) → is_some (message_at kept.mailbox p n) ≡ has o.listing n

  -- where each goes that was held aside
  abbrev pub homes_in : Settled → Homes
  homes_in s = record { pairs = held_pairs run s.names; ends = s.ends }

  module _ (z : View) (j : Hand) (left : List ℕ) (o : Opened) (b : IsBegunIn true ns run few path folder c z j left o) where
    abbrev s : Settled
    s = b.settled

    abbrev d_ : Contents
    d_ = begun_contents true ns run few path folder c s

    abbrev read_ : Marked
    read_ = read s (b.there refl) (b.listing refl) b.holds b.ends_so (b.homes_so refl)

    abbrev listing_ : List Run
    listing_ = runs_in (settled_by (homes_in s) old)

    same_numbers : numbers_settled run s ≡ listing_
    same_numbers = numbers_are s (b.there refl) (b.listing refl) b.holds b.ends_so (b.homes_so refl)

    same_read : b.old ≡ read_
    same_read = b.same refl ∙ read_d s (b.there refl) (b.listing refl) b.holds b.ends_so (b.homes_so refl)

    known : b.hand.context ≡ Some entries
    known = b.seen ∙ ap (λ es. Some es) (b.knows refl ∙ sym (entries_d s (b.there refl) (b.listing refl) b.holds b.ends_so (b.homes_so refl)))

    opened_is : o ≡ opened_of p folder listing_ (cut_to listing_ read_) s.ends
    opened_is = b.is ∙ (λ i. opened_of p folder (same_numbers i) (cut_to (same_numbers i) (same_read i)) s.ends)

    cut_ : CutEnds true ns run few path folder c s b.later read_ (cut_to listing_ read_) b.hand z j left (Ok tt)
    cut_ = subst (λ m. CutEnds true ns run few path folder c s b.later m (cut_to listing_ m) b.hand z j left (Ok tt)) same_read (subst (λ x. CutEnds true ns run few path folder c s b.later b.old (cut_to x b.old) b.hand z j left (Ok tt)) same_numbers b.cut)

    ends_ : Ends (λ e. IsClear e p) path b.later (sequences_kept path folder read_ (cut_to listing_ read_) (kept_of (with_folder_changed (mailbox_in c) p (settled_by (homes_in s))) entries)) z j (Ok tt)
    ends_ = cut_ends s (b.there refl) (b.listing refl) b.holds b.ends_so (b.homes_so refl) b.later b.hand z j left (Ok tt) known cut_

    text_short : IsShort LIMIT_BYTES old.sequences
    text_short = subst (IsShort LIMIT_BYTES) (text_d s (b.there refl) (b.listing refl) b.holds b.ends_so (b.homes_so refl)) (b.short refl)

    as_next : (next : List Run → Marked → Kept → Work CommandFault) → IsBegunAs (homes_in s) next o z j
    as_next next = subst (λ q. IsBegunAs (homes_in s) next q z j) (sym opened_is) (record {
      place = refl;
      name = refl;
      kept = (sequences_kept path folder read_ (cut_to listing_ read_) (kept_of (with_folder_changed (mailbox_in c) p (settled_by (homes_in s))) entries)).kept;
      contents = ends_.1.0;
      later = b.later;
      is = ends_.1.1;
      holds = ends_.1.2;
      work =
          whole_text s (b.there refl) (b.listing refl) b.holds b.ends_so (b.homes_so refl) next (filled old.sequences)
          (reads_short s (b.there refl) (b.listing refl) b.holds b.ends_so (b.homes_so refl) old.sequences text_short) refl
          ∙ after_all s (b.there refl) (b.listing refl) b.holds b.ends_so (b.homes_so refl) next ends_.0;
      valid = cut_valid listing_ read_;
      runs = all_runs (λ n. is_some ((settled_by (homes_in s) old).messages n));
      stands = λ n. ap is_some (sequences_messages path folder read_ (cut_to listing_ read_) (kept_of (with_folder_changed (mailbox_in c) p (settled_by (homes_in s))) entries) p n) ∙ stands_box s (b.there refl) (b.listing refl) b.holds b.ends_so (b.homes_so refl) n;
    })

    pub begun_as : (next : List Run → Marked → Kept → Work CommandFault) → AreHomes run old (homes_in s) × IsBegunAs (homes_in s) next o z j
    begun_as next = (homes_are s (b.there refl) (b.listing refl) b.holds b.ends_so (b.homes_so refl), as_next next)

  -- a folder that is not there
  pub absent_work : (h : Homes) (next : List Run → Marked → Kept → Work CommandFault) → c.there p ≡ false → begun_work path folder entries h (mailbox_in c) next ≡ refused_at (mailbox_in c) (fault.Refused (refusal.NoFolder folder))
  unfolding begun_work mailbox_in
  absent_work h next none = rw none refl
