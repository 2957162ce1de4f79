-- A command that begins a folder, among others, and keeps its marks goes as it pledges.
use Rattle.std.proofs.Common.{◌≡◌, ◌⊎◌, inl, inr, ◌<◌, ◌^◌, ◌∷◌, ℕ, true, List, refl, sym, subst}
use Rattle.mh_base.specs.declared.entry.Entry.TheVariants.{Sequences}
use Rattle.mh_base.proofs.EntryKinds.{kind_of-entry_text}
use Rattle.mh_profile.specs.declared.named_value.NamedValue.{NamedValue}
use Rattle.mh_sequences.specs.Printing.{private_entries, text_of}
use Rattle.mh_sequences.specs.Reading.{suffix}
use Rattle.mh_sequences.specs.Sequences.{Marked}
use Rattle.mh_sequences.specs.declared.run.Run.{Run}
use Rattle.folder_files.specs.Careful.{Drops, Gives, HasLock, Makes, makes}
use Rattle.folder_files.specs.Deeds.{Deed, did}
use Rattle.folder_files.specs.Named.{is_committed}
use Rattle.folder_files.specs.declared.place.Place.{Place}
use Rattle.folder_files.specs.declared.place.Place.TheVariants.{Folder, Mail}
use Rattle.folder_files.specs.declared.step.Answer.{Answer}
use Rattle.folder_files.specs.declared.step.Answer.TheVariants as answer
use Rattle.folder_files.specs.declared.step.Step.TheVariants as step
use Rattle.file_plans.specs.Plan.{Hand, lifted}
use Rattle.file_plans.specs.StaysCareful.{careful}
use Rattle.file_plans.proofs.Framing.{AnyStep}
use Rattle.step_plans.specs.Commits.{IsBase}
use Rattle.step_plans.specs.ContextCommit.{commit_context, context_name}
use Rattle.step_plans.specs.ContextPledge.{MarksContext}
use Rattle.step_plans.specs.Pledges.{Pledge}
use Rattle.step_plans.specs.PlanFaults.{of_stop}
use Rattle.step_plans.specs.Settled.{AreSettled}
use Rattle.step_plans.specs.declared.change.ChangeEntry.{ChangeEntry}
use Rattle.step_plans.proofs.Facts.{settled_kept}
use Rattle.step_plans.proofs.Going.{Goes, Outcome, goes_lifted, goes_more, goes_then, okay, okay_more}
use Rattle.step_plans.proofs.Lasting.{KeptBy, lasting}
use Rattle.step_plans.proofs.Pledged.{IsPledged, Known, Of, after_written, commit_goes}
use Rattle.step_plans.proofs.Stepping.{goes_make, goes_return}
use Rattle.step_plans.proofs.Written.{Serves}
use Rattle.held_messages.proofs.GivingBack.{Settles}
use Rattle.sequence_commits.specs.Committing.{changed_sequences}
use Rattle.sequence_commits.specs.PrivateChanges.{changes_to}
use Rattle.sequence_commits.proofs.SequencesPledged.{CommittedOrSame, MayReplace, changed_goes, sequences_name}
use Rattle.command_stages.specs.Current.{current_change, made_current}
use Rattle.command_stages.specs.Endings.{of_plan}
use Rattle.opening_plans.specs.FolderPledge.{told_within}
use Rattle.opening_plans.specs.Making.{made_begun, once_made}
use Rattle.opening_plans.specs.Opening.{Opened, begun}
use Rattle.opening_plans.specs.Reads.{HaveSeen}
use Rattle.opening_plans.proofs.FolderPledged.{Begins, HasBegun, begun_goes, seen_kept}
use Rattle.opening_plans.proofs.WorkPledged.{LetsBegin, serves_begins}
use Rattle.refile_plans.specs.RefilePledge.{WritesOf}

-- The pledge; the folder; what the command makes of its sequences, which lasts, and where it becomes the current one; and what the pledge lets be.
module _ (w : Pledge) (few : w.run < 2 ^ 128) (path folder : List ℕ) (Makes_ : List Deed → List Run → Marked → Marked → Type 0) (Becomes : Type 0) (lets : LetsBegin path folder w.manner w.may_step)
    (lasts : (listing : List Run) (m new : Marked) → KeptBy AnyStep (λ own. Makes_ own listing m new))
    (marks : (own : List Deed) (q : Place) (name old text : List ℕ) → WritesOf w.run path folder Makes_ Becomes own q name old text → w.may_mark own q name old text) where
  abbrev p : Place
  p = Folder path folder

  abbrev mail : Place
  mail = Mail path

  abbrev change : List ChangeEntry
  change = current_change folder

  abbrev Seen : List Run → List ℕ → List ℕ → List Deed → Type 0
  Seen listing text context own = HaveSeen w.run p mail listing text context own

  -- the sequences stay so, or are what the command makes of them
  abbrev MayBe : List Run → List ℕ → List ℕ → Marked → List Deed → Type 0
  MayBe listing text context new own = (new ≡ told_within listing text context folder) ⊎ Makes_ own listing (told_within listing text context folder) new

  -- and the folder and both texts were read
  abbrev SeenMade : List Run → List ℕ → List ℕ → Marked → List Deed → Type 0
  SeenMade listing text context new own = Seen listing text context own × MayBe listing text context new own

  may_be_kept : (listing : List Run) (text context : List ℕ) (new : Marked) → KeptBy AnyStep (MayBe listing text context new)
  may_be_kept listing text context new own s a any (inl e) = inl e
  may_be_kept listing text context new own s a any (inr f) = inr (lasts listing (told_within listing text context folder) new own s a any f)

  seen_made_kept : (listing : List Run) (text context : List ℕ) (new : Marked) → KeptBy AnyStep (SeenMade listing text context new)
  seen_made_kept listing text context new own s a any f = (seen_kept w.run p mail listing text context own s a any f.0, may_be_kept listing text context new own s a any f.1)

  pub serves_folder : Serves w p
  serves_folder = record {
    serves = λ own kind s k m. lets.kinds own kind s (inl (serves_begins kind k, m));
    make = λ own. lets.makes own p;
    create = λ own temp bytes is. lets.creates own p temp bytes;
    clear = λ own temp is. lets.clears own p temp is;
  }

  serves_mail : Serves w mail
  serves_mail = record {
    serves = λ own kind s k m. lets.kinds own kind s (inr (k, m));
    make = λ own. lets.makes own mail;
    create = λ own temp bytes is. lets.creates own mail temp bytes;
    clear = λ own temp is. lets.clears own mail temp is;
  }

  settles : Settles w p
  settles = record {
    gives = λ own held number. lets.kinds own Gives (step.Link p held number) (inl (refl, refl));
    drops = λ own held. lets.kinds own Drops (step.Unlink p held) (inl (refl, refl));
    link = λ own held number is_held_ is_number_. lets.gives own p held number is_held_;
    unlink = λ own held is away. lets.drops own p held is away;
  }

  apart : mail ≡ p → ⊥
  apart e = cc (e)

  folder_commits : is_committed p sequences_name ≡ true
  folder_commits = rw (kind_of-entry_text Sequences tt) refl

  -- a commit of the context by such changes is pledged, once this is so
  pledged_by : (F : List Deed → Type 0) → KeptBy AnyStep F → (cs : List ChangeEntry)
      → ((later : List Deed) (old new : List ℕ) → F later → MarksContext path cs mail context_name old new → w.may_mark later mail context_name old new) → IsPledged w mail cs AnyStep F
  pledged_by F kept cs may = record {
    asks = record { make = tt; lock = tt; list = tt; clear = λ temp is. tt; read = tt; create = λ temp bytes. tt; sync_file = λ temp. tt; rename = λ temp. tt; sync = tt; unlock = tt };
    keeps = kept;
    may = λ later old f. may later old _ f (refl, refl, refl);
    lets = λ later temp f lock m. lets.commits later mail temp context_name refl;
  }

  entries_pledged : (listing : List Run) (text context : List ℕ) (new : Marked) (seen : List NamedValue)
      → IsPledged w mail (changes_to (suffix folder) (private_entries (suffix folder) new.users) seen) AnyStep (SeenMade listing text context new)
  entries_pledged listing text context new seen =
      pledged_by (SeenMade listing text context new) (seen_made_kept listing text context new) (changes_to (suffix folder) (private_entries (suffix folder) new.users) seen)
      (λ later old text_ f m. marks later mail context_name old text_ (record { listing = listing; read_text = text; context = context; seen = f.0; new = new; made = f.1; writes = inr (inl (seen, m)) }))

  entries_told : (text context : List ℕ) (listing : List Run) (seen : List NamedValue)
      → IsPledged w mail (changes_to (suffix folder) (private_entries (suffix folder) (told_within listing text context folder).users) seen) AnyStep (Seen listing text context)
  entries_told text context listing seen =
      pledged_by (Seen listing text context) (seen_kept w.run p mail listing text context) (changes_to (suffix folder) (private_entries (suffix folder) (told_within listing text context folder).users) seen)
      (λ later old text_ f m. marks later mail context_name old text_ (record { listing = listing; read_text = text; context = context; seen = f; new = told_within listing text context folder; made = inl refl; writes = inr (inl (seen, m)) }))

  -- the folder may be begun
  pub begins : Begins w path folder
  begins = record {
    serves = serves_folder;
    mail = serves_mail;
    settles = settles;
    cut = λ own text context listing old seen. marks own p sequences_name old (text_of (told_within listing text context folder)) (record { listing = listing; read_text = text; context = context; seen = seen; new = told_within listing text context folder; made = inl refl; writes = inl (refl, refl, refl) });
    moves = λ own temp lock marked. lets.commits own p temp sequences_name folder_commits;
    entries = entries_told;
  }

  -- what was settled stays so
  abbrev pub StillBy : List Deed → List Deed → Type 0
  StillBy own later = AreSettled own → AreSettled later

  -- the folder becomes the current one
  pub current_goes : Becomes → (own : List Deed) (h : Hand) (listing : List Run) (text context : List ℕ) → Seen listing text context own → Goes w own h (made_current w.run path folder) (okay (Of (StillBy own)))
  unfolding made_current
  current_goes becomes own h listing text context seen =
      goes_then w own h (lifted (of_plan folder) (commit_context w.run mail change)) _ (Of (Known w own mail change h)) (Of (StillBy own))
      (goes_lifted w own h (of_plan folder) (commit_context w.run mail change) (Of (Known w own mail change h))
      (commit_goes w few path serves_mail change AnyStep (Seen listing text context) pledged own h seen))
      (λ later j u k. goes_return w later j tt (okay (Of (StillBy own))) k.settled_still)
    where
      pledged : IsPledged w mail change AnyStep (Seen listing text context)
      pledged =
          pledged_by (Seen listing text context) (seen_kept w.run p mail listing text context) change
          (λ later old text_ f m. marks later mail context_name old text_ (record { listing = listing; read_text = text; context = context; seen = f; new = told_within listing text context folder; made = inl refl; writes = inr (inr (becomes, m)) }))

  -- the folder's sequences are committed, as the command makes them, under its lock
  module _ (own : List Deed) (h : Hand) (listing : List Run) (text context : List ℕ) (new : Marked) (made : Makes_ own listing (told_within listing text context folder) new) (seen : Seen listing text context own) (lock : HasLock p own)
      (old : List ℕ) (base : IsBase w.run p sequences_name old own) where
    abbrev m : Marked
    m = told_within listing text context folder

    made_twice : (temp : List ℕ) → SeenMade listing text context new (after_written p temp (text_of new) own)
    made_twice temp =
        seen_made_kept listing text context new _ (step.SyncFile p temp) answer.Done tt (seen_made_kept listing text context new own (step.Create p temp (text_of new)) answer.Done tt (seen, inr made))

    may : MayReplace w p old (text_of new) own
    may = record {
      committed = folder_commits;
      lock = lock;
      base = base;
      mark = λ temp. marks (after_written p temp (text_of new) own) p sequences_name old (text_of new) (record { listing = listing; read_text = text; context = context; seen = (made_twice temp).0; new = new; made = (made_twice temp).1; writes = inl (refl, refl, refl) });
      step_ = λ temp marked. lets.commits (after_written p temp (text_of new) own) p temp sequences_name folder_commits;
    }

    abbrev Cut : List Deed → Type 0
    Cut later = CommittedOrSame w few p serves_folder path apart serves_mail folder m new (SeenMade listing text context new) (seen_made_kept listing text context new) (entries_pledged listing text context new) own later

    still_so : (later : List Deed) → Cut later → StillBy own later
    still_so later (inl same) s = subst AreSettled (sym same.1) s
    still_so later (inr c) s = c.settled_still s

    abbrev pub Committed_ : Outcome Unit
    Committed_ later j u = Seen listing text context later × StillBy own later

    pub sequences_goes : Goes w own h (lifted (of_plan folder) (changed_sequences w.run p mail folder m new)) (okay Committed_)
    sequences_goes =
        goes_lifted w own h (of_plan folder) (changed_sequences w.run p mail folder m new) Committed_
        (goes_more w own h (changed_sequences w.run p mail folder m new) (okay (λ later j u. Seen listing text context later × Cut later)) (okay Committed_)
        (okay_more (λ later j u. Seen listing text context later × Cut later) Committed_ (λ later j u f. (f.0, still_so later f.1)))
        (lasting w (Seen listing text context) (seen_kept w.run p mail listing text context) own h (changed_sequences w.run p mail folder m new) (Of Cut) seen
        (changed_goes w few p serves_folder path apart serves_mail folder m new (SeenMade listing text context new) (seen_made_kept listing text context new) (entries_pledged listing text context new) own h old (seen, inr made) may)))

  -- what holds where the folder was begun
  abbrev pub IsBegun : List Deed → Outcome Opened
  IsBegun own later j o = HasBegun w own path folder later o

  pub source_goes : (own : List Deed) (h : Hand) → Goes w own h (begun w.run p mail folder) (okay (IsBegun own))
  source_goes own h = begun_goes w few path folder begins own h

  -- a folder that the run has made is begun
  pub made_goes : (own : List Deed) (h : Hand) → Goes w own h (made_begun w.run p mail folder) (okay (IsBegun own))
  unfolding made_begun
  made_goes own h =
      goes_make w own h of_stop (okay (IsBegun own)) p (λ made. lifted once_made (begun w.run p mail folder))
      (λ s. (record { is_own = careful s.unfailed Makes (makes p) (lets.kinds own Makes (step.MakeFolder p) (inl (refl, refl))) (λ q l c. absurd c); marks = tt; steps = λ no. lets.makes own p }, tt))
      (then_begun answer.Done) (then_begun answer.Exists)
    where
      begun_on : (a : Answer) (later : List Deed) (j : Hand) (o : Opened) → IsBegun (did (step.MakeFolder p) a ∷ own) later j o → IsBegun own later j o
      begun_on a later j o b = record {
        held = record { settled = λ f. b.held.settled (settled_kept own (step.MakeFolder p) a tt f); lock = b.held.lock };
        place = b.place;
        name = b.name;
        text = b.text;
        context = b.context;
        seen = b.seen;
        sequences = b.sequences;
        base = b.base;
        marks = b.marks;
      }

      then_begun : (a : Answer) → Goes w (did (step.MakeFolder p) a ∷ own) h (lifted once_made (begun w.run p mail folder)) (okay (IsBegun own))
      then_begun a =
          goes_more w (did (step.MakeFolder p) a ∷ own) h (lifted once_made (begun w.run p mail folder)) (okay (IsBegun (did (step.MakeFolder p) a ∷ own))) (okay (IsBegun own))
          (okay_more (IsBegun (did (step.MakeFolder p) a ∷ own)) (IsBegun own) (begun_on a))
          (goes_lifted w (did (step.MakeFolder p) a ∷ own) h once_made (begun w.run p mail folder) (IsBegun (did (step.MakeFolder p) a ∷ own)) (source_goes (did (step.MakeFolder p) a ∷ own) h))
