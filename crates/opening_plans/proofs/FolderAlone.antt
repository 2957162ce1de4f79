-- Beginning a folder alone.
use Rattle.std.proofs.Common.{◌≡◌, inl, inr, ◌<◌, ◌^◌, ◌+◌, ℕ, true, false, List, [], length, Option, None, Some, Result, Ok, Err, refl, sym, ◌∙◌, ap, subst}
use Rattle.std.specs.Prelude.{IfOk}
use Rattle.mh_profile.specs.Reading.{entries_in, entries_seen}
use Rattle.mh_sequences.specs.Printing.{text_of}
use Rattle.mh_sequences.specs.Sequences.{Marked}
use Rattle.folder_files.specs.Histories.{own, past_of}
use Rattle.folder_files.specs.Story.{Story, Moment, Grows, GrowsBy}
use Rattle.folder_files.specs.declared.place.Place.{Place}
use Rattle.folder_files.specs.declared.place.Place.TheVariants.{Folder, Mail}
use Rattle.file_plans.specs.Alone.{first_of, world_at}
use Rattle.file_plans.specs.Contents.{Contents, contents_of, filled, folder_at, mailbox_in}
use Rattle.file_plans.specs.Follows.{State, Follows, deeds_in, filed_in}
use Rattle.file_plans.specs.Mailboxes.{Folder as FolderValue, Mailbox, mailbox_of}
use Rattle.file_plans.specs.Plan.{Hand}
use Rattle.file_plans.specs.Runs.{Deed, Returned, Runs}
use Rattle.file_plans.specs.Sightings.{AreMade, IsFailed, Made, events_since}
use Rattle.file_plans.specs.Views.{View, first_view}
use Rattle.file_plans.proofs.Acting.{acts, acts_made}
use Rattle.file_plans.proofs.Beside.{lone_changes}
use Rattle.file_plans.proofs.Both.{alone_gave}
use Rattle.file_plans.proofs.Contents.{mailbox_is}
use Rattle.file_plans.proofs.Existing.{puts_in}
use Rattle.file_plans.proofs.Failing.{made_failed}
use Rattle.step_plans.specs.ContextCommit.{context_name}
use Rattle.step_plans.specs.PlanFaults.{plan_cause}
use Rattle.step_plans.specs.declared.fault.PlanFault.{PlanFault}
use Rattle.held_messages.specs.declared.held.HeldPair.{HeldPair}
use Rattle.held_messages.specs.HeldPairs.{held_pairs, settled, with_folder_changed}
use Rattle.held_messages.specs.Highest.{highest}
use Rattle.held_messages.specs.Settle.{Settled}
use Rattle.sequence_commits.specs.CommittedAlone.{AreCommitted}
use Rattle.sequence_commits.specs.Cutting.{cut_to}
use Rattle.sequence_commits.specs.PrivateChanges.{private_changes}
use Rattle.sequence_commits.specs.Reading.{sequences_in}
use Rattle.sequence_commits.proofs.AloneCommitted.{shown}
use Rattle.sequence_commits.proofs.SequencesPledged.{sequences_name}
use Rattle.opening_plans.specs.BegunAlone.{BeginsAlone, BeginsIfUnfaulted, BeginsInStory, IsBegun}
use Rattle.opening_plans.specs.Existing.{numbers_settled}
use Rattle.opening_plans.specs.Opening.{Opened, begun}
use Rattle.opening_plans.proofs.FolderGiven.{BeginEnds, CutEnds, IsBegunIn, begun_contents, begun_gives}
use Rattle.opening_plans.proofs.SettledShown.{entries_same, held_are, listing_is, shows, text_same, there_shown, top_is}

module _ (run : ℕ) (few : run < 2 ^ 128) (path folder ns : List ℕ) (c : Contents) (z : View) (j : Hand) (left : List ℕ) (o : Opened) (b : IsBegunIn true ns run few path folder c z j left o) where
  abbrev p : Place
  p = Folder path folder

  abbrev s : Settled
  s = b.settled

  abbrev hs : List HeldPair
  hs = held_pairs run s.names

  abbrev old : FolderValue
  old = folder_at c p

  abbrev d : Contents
  d = begun_contents true ns run few path folder c s

  read_same : b.old ≡ sequences_in (filled (c.texts p sequences_name)) (entries_in (filled (c.texts (Mail path) context_name))) folder
  read_same = b.same refl ∙ (λ i. sequences_in (filled (text_same run few path folder ns c b.settled (b.listing refl) b.holds b.ends_so (b.homes_so refl) i)) (entries_same run few path folder ns c b.settled (b.listing refl) b.holds b.ends_so (b.homes_so refl) i) folder)

  -- what the commit shows
  cut_shows : (new : Marked) (m after : Mailbox) → mailbox_in d ≡ m → after ≡ mailbox_in z.contents → CutEnds true ns run few path folder c s b.later b.old new b.hand z j left (Ok tt)
      → AreCommitted m after p path folder b.old new b.hand
  cut_shows new m after is at (inl f) = inl (f.0, at ∙ (ap mailbox_in (f.1.left.is.0 refl) ∙ is))
  cut_shows new m after is at (inr f) =
      subst (λ n. AreCommitted n after p path folder b.old new b.hand) is
      (inr (f.0, shown d path path folder (text_of new) (private_changes folder new.users (entries_seen b.hand.context)) b.later b.hand j z left after at f.1.1))

  -- all of it
  begun_is : (m after : Mailbox) → mailbox_in c ≡ m → after ≡ mailbox_in z.contents → IsBegun run path folder m after o
  unfolding mailbox_in
  begun_is m after is at =
      subst (λ n. IsBegun run path folder n after o) is
      (subst (λ q. IsBegun run path folder (mailbox_in c) after q) (sym b.is) (record {
        place = refl;
        name = refl;
        old = old;
        there = there_shown c p (c.there p) (b.there refl);
        pairs = hs;
        held = held_are run few path folder ns c b.settled (b.listing refl) b.holds b.ends_so (b.homes_so refl);
        highest = highest s.names;
        top = top_is run few path folder ns c b.settled (b.listing refl) b.holds b.ends_so (b.homes_so refl);
        ends = b.homes_so refl;
        listing = listing_is run few path folder ns c b.settled (b.listing refl) b.holds b.ends_so (b.homes_so refl);
        read = b.old;
        is_read = read_same;
        sequences = refl;
        hand = b.hand;
        seen = b.seen ∙ ap (λ es. Some es) (b.knows refl ∙ entries_same run few path folder ns c b.settled (b.listing refl) b.holds b.ends_so (b.homes_so refl));
        mailbox = cut_shows (cut_to (numbers_settled run s) b.old) (with_folder_changed (mailbox_in c) p (λ f. settled f hs s.ends)) after (shows run few path folder ns c b.settled (b.listing refl) b.holds b.ends_so (b.homes_so refl)) at b.cut;
      }))

begin_alone : (run : ℕ) (path folder : List ℕ) (old new : Story) (log : List Moment) (h j : Hand) (ds : List Deed) (o : Opened)
    → Grows run old new log → (Made IsFailed (own run (past_of (events_since old new))) → ⊥) → own run (past_of (events_since old new)) ≡ acts ds
    → Runs (begun run (Folder path folder) (Mail path) folder) h ds j (Returned (Ok o)) → BeginsAlone run path folder o old new
begin_alone run path folder old new log h j ds o g never own_is runs = λ added asked st possible alone few.
    let first = world_at new (first_of (length old.history) added) in
    let last = world_at new (first_of (length old.history) added + length added) in
    let c = contents_of first in
    let r = alone_gave (λ q x. false) run old new added (begun run (Folder path folder) (Mail path) folder) h j ds (Returned (Ok o)) [] (BeginEnds true (puts_in ds) run few path folder c)
    (lone_changes run old new log added g asked st possible alone never) own_is runs
    (begun_gives true (puts_in ds) run few path folder c (first_view c (puts_in ds) (λ q x. false)) h [] (record { has = (refl, refl); fresh = λ x. refl; unmet = λ x e. refl; hand = refl })) in
    begun_is run few path folder (puts_in ds) c r.view j r.gave.left o (r.gave.returned (Ok o) refl) (mailbox_of first) (mailbox_of last) (sym (mailbox_is first)) (mailbox_is last ∙ ap mailbox_in (sym r.contents))

pub begins_alone : (run : ℕ) (path folder : List ℕ) (x y : State) (o : Opened) → Follows run plan_cause (begun run (Folder path folder) (Mail path) folder) x y (Ok o) → BeginsIfUnfaulted run path folder o x.files y.files
begins_alone run path folder x y o f unfaulted = by_story x.files.story y.files.story f.went.grows (acts_made run x.files.story y.files.story f.went.log f.went.grows)
  where
    by_story : (old new : Option Story) → GrowsBy run old new (filed_in f.went.log) → AreMade run old new (acts (deeds_in f.went.log)) → BeginsInStory run path folder o old new
    by_story None None grows made = tt
    by_story None (Some new) grows made = absurd grows
    by_story (Some old) None grows made = absurd grows
    by_story (Some old) (Some new) grows made =
        begin_alone run path folder old new (filed_in f.went.log) x.hand y.hand (deeds_in f.went.log) o grows
        (λ failed. unfaulted (f.went.failed_cause (made_failed (deeds_in f.went.log) (rw (← made) at failed)))) (sym made) f.went.runs

pub begins_if : (run : ℕ) (path folder : List ℕ) (x y : State) (result : Result Opened PlanFault) → Follows run plan_cause (begun run (Folder path folder) (Mail path) folder) x y result
    → IfOk result (λ o. BeginsIfUnfaulted run path folder o x.files y.files)
begins_if run path folder x y (Ok o) f = begins_alone run path folder x y o f
begins_if run path folder x y (Err e) f = tt
