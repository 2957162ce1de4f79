-- A command that begins a folder and changes what marks its messages goes as it pledges.
use Rattle.std.proofs.Common.{◌≡◌, ◌⊎◌, inl, inr, ◌<◌, ◌^◌, ◌∷◌, ℕ, true, List, Result, Ok, Err, refl, sym, subst}
use Rattle.mh_base.specs.Entries.{kind_of}
use Rattle.mh_base.specs.declared.entry.Entry.TheVariants.{Sequences}
use Rattle.mh_base.proofs.EntryKinds.{kind_of-entry_text}
use Rattle.mh_profile.specs.declared.named_value.NamedValue.{NamedValue}
use Rattle.mh_sequences.specs.Printing.{private_entries, text_of}
use Rattle.mh_sequences.specs.Reading.{suffix}
use Rattle.mh_sequences.specs.Sequences.{Marked}
use Rattle.mh_sequences.specs.declared.run.Run.{Run}
use Rattle.folder_files.specs.Careful.{HasLock, Kind, WasGivenAway, makes, Makes, Creates, Puts, Gives, Takes, Removes, Drops, Discards, Commits, Clears, Cuts, Stores}
use Rattle.folder_files.specs.Commands.{KeepsFolder, MakesStep, Manner, begins_folder, serves_commit}
use Rattle.folder_files.specs.Deeds.{Deed, did}
use Rattle.folder_files.specs.Named.{is_committed, is_held, is_temp}
use Rattle.folder_files.specs.declared.place.Place.{Place}
use Rattle.folder_files.specs.declared.place.Place.TheVariants.{Folder, Mail}
use Rattle.folder_files.specs.declared.step.Answer.{Answer}
use Rattle.folder_files.specs.declared.step.Answer.TheVariants as answer
use Rattle.folder_files.specs.declared.step.Step.{Step}
use Rattle.folder_files.specs.declared.step.Step.TheVariants as step
use Rattle.file_plans.specs.Plan.{Hand, Plan, after, bind, lifted, ◌>>=◌}
use Rattle.file_plans.specs.Rules.{IfOkay, Keeps, Rules}
use Rattle.file_plans.specs.Runs.{Deed as Done}
use Rattle.file_plans.specs.StaysCareful.{careful}
use Rattle.file_plans.proofs.Acting.{acts}
use Rattle.file_plans.proofs.Framing.{AnyStep}
use Rattle.file_plans.proofs.Keeping.{keeps_bind}
use Rattle.step_plans.specs.Commits.{IsBase}
use Rattle.step_plans.specs.ContextCommit.{commit_context, context_name}
use Rattle.step_plans.specs.ContextPledge.{MarksContext}
use Rattle.step_plans.specs.Pledges.{MayAsk, Pledge}
use Rattle.step_plans.specs.PlanFaults.{of_stop}
use Rattle.step_plans.specs.Settled.{AreSettled}
use Rattle.step_plans.specs.declared.change.ChangeEntry.{ChangeEntry}
use Rattle.step_plans.specs.declared.command_fault.CommandFault.{CommandFault}
use Rattle.step_plans.specs.declared.fault.PlanFault.{PlanFault}
use Rattle.step_plans.proofs.Facts.{settled_kept}
use Rattle.step_plans.proofs.Going.{ByActs, Goes, Outcome, Sound, Soundly, goes_keeps, goes_lifted, goes_more, goes_then, okay, okay_more}
use Rattle.step_plans.proofs.Lasting.{KeptBy, lasting}
use Rattle.step_plans.proofs.Pledged.{IsPledged, Known, Of, after_written, commit_goes}
use Rattle.step_plans.proofs.Ruling.{rules_of}
use Rattle.step_plans.proofs.Stepping.{goes_make, goes_return}
use Rattle.step_plans.proofs.Written.{Serves}
use Rattle.held_messages.proofs.GivingBack.{Settles}
use Rattle.sequence_commits.specs.Committing.{changed_sequences}
use Rattle.sequence_commits.specs.PrivateChanges.{changes_to}
use Rattle.sequence_commits.proofs.SequencesPledged.{CommittedOrSame, MayReplace, changed_goes, sequences_name}
use Rattle.command_stages.specs.Current.{current_change, made_current}
use Rattle.command_stages.specs.Endings.{of_plan}
use Rattle.opening_plans.specs.Ending.{ended}
use Rattle.opening_plans.specs.FolderPledge.{WritesMarks, folder_pledge, told_within}
use Rattle.opening_plans.specs.Making.{made_begun, once_made}
use Rattle.opening_plans.specs.Opening.{Opened, begun}
use Rattle.opening_plans.specs.Reads.{HaveSeen}
use Rattle.opening_plans.proofs.CleanRuns.{goes_asked}
use Rattle.opening_plans.proofs.EndedKept.{Still, ended_keeps, none_keeps}
use Rattle.opening_plans.proofs.FolderPledged.{Begins, HasBegun, begun_goes, seen_kept}

-- what serves a commit begins a folder too
pub serves_begins : (k : Kind) → serves_commit k ≡ true → begins_folder k ≡ true
serves_begins Makes e = refl
serves_begins Creates e = refl
serves_begins Puts e = cc (e)
serves_begins Gives e = refl
serves_begins Takes e = cc (e)
serves_begins Removes e = cc (e)
serves_begins Drops e = refl
serves_begins Discards e = cc (e)
serves_begins Commits e = refl
serves_begins Clears e = refl
serves_begins Cuts e = cc (e)
serves_begins Stores e = cc (e)

-- a command of this manner may begin the folder and keep its marks, and what is asked of its steps besides lets it
pub record LetsBegin (path folder : List ℕ) (manner : Manner) (may_step : List Deed → Step → Type 0) : Type 0 where
  pub kinds : (own : List Deed) (kind : Kind) (s : Step) → KeepsFolder path folder kind s → MakesStep manner own kind s
  pub makes : (own : List Deed) (q : Place) → may_step own (step.MakeFolder q)
  pub creates : (own : List Deed) (q : Place) (temp bytes : List ℕ) → may_step own (step.Create q temp bytes)
  pub clears : (own : List Deed) (q : Place) (temp : List ℕ) → is_temp (kind_of temp) ≡ true → may_step own (step.Unlink q temp)
  pub gives : (own : List Deed) (q : Place) (held number : List ℕ) → is_held (kind_of held) ≡ true → may_step own (step.Link q held number)
  pub drops : (own : List Deed) (q : Place) (held : List ℕ) → is_held (kind_of held) ≡ true → WasGivenAway q held own → may_step own (step.Unlink q held)
  pub commits : (own : List Deed) (q : Place) (temp name : List ℕ) → is_committed q name ≡ true → may_step own (step.Rename q temp name)

-- what a command makes of sequences without regard to its deeds it makes later too
pub whenever : (Makes_ : List Run → Marked → Marked → Type 0) (listing : List Run) (m new : Marked) → KeptBy AnyStep (λ own. Makes_ listing m new)
whenever Makes_ listing m new own s a any f = f

module _ (run : ℕ) (few : run < 2 ^ 128) (path folder : List ℕ) (Makes_ : List Deed → List Run → Marked → Marked → Type 0) (manner : Manner) (may_tell : List Deed → List ℕ → Type 0)
    (may_step : List Deed → Step → Type 0) (lets : LetsBegin path folder manner may_step) (lasts : (listing : List Run) (m new : Marked) → KeptBy AnyStep (λ own. Makes_ own listing m new)) where
  abbrev w : Pledge
  w = folder_pledge run path folder Makes_ manner may_tell may_step

  abbrev p : Place
  p = Folder path folder

  abbrev mail : Place
  mail = Mail path

  abbrev change : List ChangeEntry
  change = current_change folder

  abbrev Seen : List Run → List ℕ → List ℕ → List Deed → Type 0
  Seen listing text context own = HaveSeen run p mail listing text context own

  -- the sequences stay so, or are what the command makes of them
  abbrev MayBe : List Run → List ℕ → List ℕ → Marked → List Deed → Type 0
  MayBe listing text context new own = (new ≡ told_within listing text context folder) ⊎ Makes_ own listing (told_within listing text context folder) new

  -- and the folder and both texts were read
  abbrev SeenMade : List Run → List ℕ → List ℕ → Marked → List Deed → Type 0
  SeenMade listing text context new own = Seen listing text context own × MayBe listing text context new own

  may_be_kept : (listing : List Run) (text context : List ℕ) (new : Marked) → KeptBy AnyStep (MayBe listing text context new)
  may_be_kept listing text context new own s a any (inl e) = inl e
  may_be_kept listing text context new own s a any (inr f) = inr (lasts listing (told_within listing text context folder) new own s a any f)

  seen_made_kept : (listing : List Run) (text context : List ℕ) (new : Marked) → KeptBy AnyStep (SeenMade listing text context new)
  seen_made_kept listing text context new own s a any f = (seen_kept run p mail listing text context own s a any f.0, may_be_kept listing text context new own s a any f.1)

  serves_folder : Serves w p
  serves_folder = record {
    serves = λ own kind s k m. lets.kinds own kind s (inl (serves_begins kind k, m));
    make = λ own. lets.makes own p;
    create = λ own temp bytes is. lets.creates own p temp bytes;
    clear = λ own temp is. lets.clears own p temp is;
  }

  serves_mail : Serves w mail
  serves_mail = record {
    serves = λ own kind s k m. lets.kinds own kind s (inr (k, m));
    make = λ own. lets.makes own mail;
    create = λ own temp bytes is. lets.creates own mail temp bytes;
    clear = λ own temp is. lets.clears own mail temp is;
  }

  settles : Settles w p
  settles = record {
    gives = λ own held number. lets.kinds own Gives (step.Link p held number) (inl (refl, refl));
    drops = λ own held. lets.kinds own Drops (step.Unlink p held) (inl (refl, refl));
    link = λ own held number is_held_ is_number_. lets.gives own p held number is_held_;
    unlink = λ own held is away. lets.drops own p held is away;
  }

  apart : mail ≡ p → ⊥
  apart e = cc (e)

  folder_commits : is_committed p sequences_name ≡ true
  folder_commits = rw (kind_of-entry_text Sequences tt) refl

  -- a commit of the context by such changes is pledged, once this is so
  pledged_by : (F : List Deed → Type 0) → KeptBy AnyStep F → (cs : List ChangeEntry)
      → ((later : List Deed) (old new : List ℕ) → F later → MarksContext path cs mail context_name old new → WritesMarks run path folder Makes_ later mail context_name old new)
      → IsPledged w mail cs AnyStep F
  pledged_by F kept cs may = record {
    asks = record { make = tt; lock = tt; list = tt; clear = λ temp is. tt; read = tt; create = λ temp bytes. tt; sync_file = λ temp. tt; rename = λ temp. tt; sync = tt; unlock = tt };
    keeps = kept;
    may = λ later old f. may later old _ f (refl, refl, refl);
    lets = λ later temp f lock m. lets.commits later mail temp context_name refl;
  }

  entries_told : (listing : List Run) (text context : List ℕ) (seen : List NamedValue)
      → IsPledged w mail (changes_to (suffix folder) (private_entries (suffix folder) (told_within listing text context folder).users) seen) AnyStep (Seen listing text context)
  entries_told listing text context seen =
      pledged_by (Seen listing text context) (seen_kept run p mail listing text context) (changes_to (suffix folder) (private_entries (suffix folder) (told_within listing text context folder).users) seen)
      (λ later old made_ f m. record { listing = listing; read_text = text; context = context; seen = f; new = told_within listing text context folder; made = inl refl; writes = inr (inl (seen, m)) })

  entries_pledged : (listing : List Run) (text context : List ℕ) (new : Marked) (seen : List NamedValue)
      → IsPledged w mail (changes_to (suffix folder) (private_entries (suffix folder) new.users) seen) AnyStep (SeenMade listing text context new)
  entries_pledged listing text context new seen =
      pledged_by (SeenMade listing text context new) (seen_made_kept listing text context new) (changes_to (suffix folder) (private_entries (suffix folder) new.users) seen)
      (λ later old made_ f m. record { listing = listing; read_text = text; context = context; seen = f.0; new = new; made = f.1; writes = inr (inl (seen, m)) })

  current_pledged : (listing : List Run) (text context : List ℕ) → IsPledged w mail change AnyStep (Seen listing text context)
  current_pledged listing text context =
      pledged_by (Seen listing text context) (seen_kept run p mail listing text context) change
      (λ later old made f m. record { listing = listing; read_text = text; context = context; seen = f; new = told_within listing text context folder; made = inl refl; writes = inr (inr m) })

  -- the folder may be begun
  pub begins : Begins w path folder
  begins = record {
    serves = serves_folder;
    mail = serves_mail;
    settles = settles;
    cut = λ own text context listing old seen. record { listing = listing; read_text = text; context = context; seen = seen; new = told_within listing text context folder; made = inl refl; writes = inl (refl, refl, refl) };
    moves = λ own temp lock marked. lets.commits own p temp sequences_name folder_commits;
    entries = λ text context listing seen. entries_told listing text context seen;
  }

  -- after it: what was settled of commits stays so
  abbrev pub StillBy : List Deed → List Deed → Type 0
  StillBy own later = AreSettled own → AreSettled later

  -- the folder becomes the current one
  pub current_goes : (own : List Deed) (h : Hand) (listing : List Run) (text context : List ℕ) → Seen listing text context own → Goes w own h (made_current run path folder) (okay (Of (StillBy own)))
  unfolding made_current
  current_goes own h listing text context seen =
      goes_then w own h (lifted (of_plan folder) (commit_context run mail change)) _ (Of (Known w own mail change h)) (Of (StillBy own))
      (goes_lifted w own h (of_plan folder) (commit_context run mail change) (Of (Known w own mail change h))
      (commit_goes w few path serves_mail change AnyStep (Seen listing text context) (current_pledged listing text context) own h seen))
      (λ later j u k. goes_return w later j tt (okay (Of (StillBy own))) k.settled_still)

  -- the folder's sequences are committed, as the command makes them, under its lock
  module _ (own : List Deed) (h : Hand) (listing : List Run) (text context : List ℕ) (new : Marked) (made : MayBe listing text context new own) (seen : Seen listing text context own) (lock : HasLock p own)
      (old : List ℕ) (base : IsBase run p sequences_name old own) where
    abbrev m : Marked
    m = told_within listing text context folder

    made_twice : (temp : List ℕ) → SeenMade listing text context new (after_written p temp (text_of new) own)
    made_twice temp =
        seen_made_kept listing text context new _ (step.SyncFile p temp) answer.Done tt (seen_made_kept listing text context new own (step.Create p temp (text_of new)) answer.Done tt (seen, made))

    may : MayReplace w p old (text_of new) own
    may = record {
      committed = folder_commits;
      lock = lock;
      base = base;
      mark = λ temp. record { listing = listing; read_text = text; context = context; seen = (made_twice temp).0; new = new; made = (made_twice temp).1; writes = inl (refl, refl, refl) };
      step_ = λ temp marked. lets.commits (after_written p temp (text_of new) own) p temp sequences_name folder_commits;
    }

    abbrev Cut : List Deed → Type 0
    Cut later = CommittedOrSame w few p serves_folder path apart serves_mail folder m new (SeenMade listing text context new) (seen_made_kept listing text context new) (entries_pledged listing text context new) own later

    still : (later : List Deed) → Cut later → StillBy own later
    still later (inl same) s = subst AreSettled (sym same.1) s
    still later (inr c) s = c.settled_still s

    abbrev pub Committed_ : Outcome Unit
    Committed_ later j u = Seen listing text context later × StillBy own later

    pub sequences_goes : Goes w own h (changed_sequences run p mail folder m new) (okay Committed_)
    sequences_goes =
        goes_more w own h (changed_sequences run p mail folder m new) (okay (λ later j u. Seen listing text context later × Cut later)) (okay Committed_)
        (okay_more (λ later j u. Seen listing text context later × Cut later) Committed_ (λ later j u f. (f.0, still later f.1)))
        (lasting w (Seen listing text context) (seen_kept run p mail listing text context) own h (changed_sequences run p mail folder m new) (Of Cut) seen
        (changed_goes w few p serves_folder path apart serves_mail folder m new (SeenMade listing text context new) (seen_made_kept listing text context new) (entries_pledged listing text context new) own h old (seen, made) may))

    pub committed_goes : Goes w own h (lifted (of_plan folder) (changed_sequences run p mail folder m new)) (okay Committed_)
    committed_goes = goes_lifted w own h (of_plan folder) (changed_sequences run p mail folder m new) Committed_ sequences_goes

  -- a folder that the run has made is begun
  pub made_goes : (own : List Deed) (h : Hand) → Goes w own h (made_begun run p mail folder) (okay (λ later j o. HasBegun w own path folder later o))
  unfolding made_begun
  made_goes own h =
      goes_make w own h of_stop (okay (λ later j o. HasBegun w own path folder later o)) p (λ made. lifted once_made (begun run p mail folder))
      (λ s. (record { is_own = careful s.unfailed Makes (makes p) (lets.kinds own Makes (step.MakeFolder p) (inl (refl, refl))) (λ q l c. absurd c); marks = tt; steps = λ no. lets.makes own p }, tt))
      (then_begun answer.Done) (then_begun answer.Exists)
    where
      begun_on : (a : Answer) (later : List Deed) (j : Hand) (o : Opened) → HasBegun w (did (step.MakeFolder p) a ∷ own) path folder later o → HasBegun w own path folder later o
      begun_on a later j o b = record {
        held = record { settled = λ f. b.held.settled (settled_kept own (step.MakeFolder p) a tt f); lock = b.held.lock };
        place = b.place;
        name = b.name;
        text = b.text;
        context = b.context;
        seen = b.seen;
        sequences = b.sequences;
        base = b.base;
        marks = b.marks;
      }

      then_begun : (a : Answer) → Goes w (did (step.MakeFolder p) a ∷ own) h (lifted once_made (begun run p mail folder)) (okay (λ later j o. HasBegun w own path folder later o))
      then_begun a =
          goes_more w (did (step.MakeFolder p) a ∷ own) h (lifted once_made (begun run p mail folder)) (okay (λ later j o. HasBegun w (did (step.MakeFolder p) a ∷ own) path folder later o)) (okay (λ later j o. HasBegun w own path folder later o))
          (okay_more (λ later j o. HasBegun w (did (step.MakeFolder p) a ∷ own) path folder later o) (λ later j o. HasBegun w own path folder later o) (begun_on a))
          (goes_lifted w (did (step.MakeFolder p) a ∷ own) h once_made (begun run p mail folder) (λ later j o. HasBegun w (did (step.MakeFolder p) a ∷ own) path folder later o) (begun_goes w few path folder begins (did (step.MakeFolder p) a ∷ own) h))

  -- the whole: the folder is begun, the work on it is done, and its lock falls
  module _ (F : List Deed → Type 0) (opening : Plan (Result Opened PlanFault)) (act : Opened → Plan (Result Unit CommandFault)) (past : List Done)
      (goes : (later : List Deed) (o : Opened) → HasBegun w (acts past) path folder later o × F later → (h : Hand) → Sound w later h → Goes w later h (act o) (okay (Of (StillBy later)))) where
    pub opened_keeps : (h : Hand) → Sound w (acts past) h → Goes w (acts past) h opening (okay (λ later j o. HasBegun w (acts past) path folder later o × F later))
        → Keeps (rules_of w) past h (lifted (of_plan folder) opening >>= (λ o. bind (act o) (ended p))) (IfOkay (Still (acts past)))
    unfolding ◌>>=◌
    opened_keeps h sound opens =
        keeps_bind u past h (lifted (of_plan folder) opening) (after work) (ByActs (Soundly w (okay Begun))) (IfOkay (Still own))
        (goes_keeps w past own h (lifted (of_plan folder) opening) (okay Begun) refl sound (goes_lifted w own h (of_plan folder) opening Begun opens))
        (λ later j r q. goes_on_by later j r q.0 q.1)
      where
        own : List Deed
        own = acts past

        u : Rules
        u = rules_of w

        work : Opened → Plan (Result Unit CommandFault)
        work o = bind (act o) (ended p)

        Begun : Outcome Opened
        Begun later j o = HasBegun w own path folder later o × F later

        still_so : (later last : List Done) (i : Hand) (e : Result Unit CommandFault) → StillBy own (acts later) → Sound w (acts last) i → okay (Of (StillBy (acts later))) (acts last) i e → IfOkay (Still own) last i e
        still_so later last i (Ok v) f s m = record { settled = λ x. m (f x); unfailed = s.unfailed }
        still_so later last i (Err e) f s m = tt

        goes_on_by : (later : List Done) (j : Hand) (r : Result Opened CommandFault) → Sound w (acts later) j → okay Begun (acts later) j r → Keeps u later j (after work r) (IfOkay (Still own))
        goes_on_by later j (Ok o) s b =
            keeps_bind u later j (act o) (ended p) (ByActs (Soundly w (okay (Of (StillBy (acts later)))))) (IfOkay (Still own))
            (goes_keeps w later (acts later) j (act o) (okay (Of (StillBy (acts later)))) refl s (goes (acts later) o b j s))
            (λ last i e q. ended_keeps w own last i p e q.0.numbered (still_so later last i e b.0.held.settled q.0 q.1))
        goes_on_by later j (Err e) s b = none_keeps w own later j e s.numbered

  begun_also : (own later : List Deed) (j : Hand) (r : Result Opened PlanFault) → okay (λ last i o. HasBegun w own path folder last o) later j r → okay (λ last i o. HasBegun w own path folder last o × Unit {0}) later j r
  begun_also own later j (Ok o) b = (b, tt)
  begun_also own later j (Err e) b = tt

  pub begun_keeps : (act : Opened → Plan (Result Unit CommandFault)) → ((first own : List Deed) (o : Opened) → HasBegun w first path folder own o → (h : Hand) → Goes w own h (act o) (okay (Of (StillBy own))))
      → (past : List Done) (h : Hand) → Sound w (acts past) h → Keeps (rules_of w) past h (lifted (of_plan folder) (begun run p mail folder) >>= (λ o. bind (act o) (ended p))) (IfOkay (Still (acts past)))
  begun_keeps act goes past h sound =
      opened_keeps (λ own. Unit {0}) (begun run p mail folder) act past (λ later o b i s. goes (acts past) later o b.0 i) h sound
      (goes_more w (acts past) h (begun run p mail folder) (okay (λ later j o. HasBegun w (acts past) path folder later o)) (okay (λ later j o. HasBegun w (acts past) path folder later o × Unit {0})) (begun_also (acts past)) (begun_goes w few path folder begins (acts past) h))

  -- the same of a command that makes the folder, with a fact that each step keeps that the pledge lets be
  module _ (F : List Deed → Type 0) (keeps : (own : List Deed) (s : Step) (a : Answer) → MayAsk w own s → F own → F (did s a ∷ own)) where
    made_also : (own later : List Deed) (j : Hand) (r : Result Opened PlanFault) → F later × okay (λ last i o. HasBegun w own path folder last o) later j r → okay (λ last i o. HasBegun w own path folder last o × F last) later j r
    made_also own later j (Ok o) b = (b.1, b.0)
    made_also own later j (Err e) b = tt

    pub made_keeps : (act : Opened → Plan (Result Unit CommandFault)) (past : List Done)
        → ((later : List Deed) (o : Opened) → HasBegun w (acts past) path folder later o × F later → (h : Hand) → Sound w later h → Goes w later h (act o) (okay (Of (StillBy later))))
        → (h : Hand) → F (acts past) → Sound w (acts past) h → Keeps (rules_of w) past h (lifted (of_plan folder) (made_begun run p mail folder) >>= (λ o. bind (act o) (ended p))) (IfOkay (Still (acts past)))
    made_keeps act past goes h f sound =
        opened_keeps F (made_begun run p mail folder) act past goes h sound
        (goes_more w (acts past) h (made_begun run p mail folder) (λ later j r. F later × okay (λ last i o. HasBegun w (acts past) path folder last o) later j r) (okay (λ later j o. HasBegun w (acts past) path folder later o × F later)) (made_also (acts past))
        (goes_asked w F keeps (acts past) h (made_begun run p mail folder) (okay (λ later j o. HasBegun w (acts past) path folder later o)) sound f (made_goes (acts past) h)))
