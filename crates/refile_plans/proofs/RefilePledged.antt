-- `refile` goes as it pledges.
use Rattle.std.proofs.Common.{◌≡◌, inl, inr, ◌<◌, ◌+◌, ◌^◌, ◌∷◌, [], ℕ, Bool, true, false, List, Result, Ok, Err, length, nat_le, refl, sym, ◌∙◌, ap, subst}
use Rattle.std.specs.Prelude.{Contains, map}
use Rattle.std.proofs.lemmas.Bool.Decides.{Decides-eqb}
use Rattle.mh_base.specs.Entries.{entry_text, kind_of}
use Rattle.mh_base.specs.Numbers.{IsMsgNum}
use Rattle.mh_base.specs.declared.entry.Entry.TheVariants.{Held, Sequences}
use Rattle.mh_base.proofs.EntryKinds.{kind_of-entry_text}
use Rattle.mh_sequences.specs.Sequences.{Marked}
use Rattle.folder_files.specs.Careful.{HasLock}
use Rattle.folder_files.specs.Deeds.{Deed}
use Rattle.folder_files.specs.declared.place.Place.{Place}
use Rattle.folder_files.specs.declared.place.Place.TheVariants.{Folder, Mail}
use Rattle.folder_files.specs.declared.refusal.Refusal.TheVariants as refusal
use Rattle.folder_files.specs.declared.step.Step.{Step}
use Rattle.file_plans.specs.Follows.{Follows, State, deeds_in}
use Rattle.file_plans.specs.Framing.{AsksOnly}
use Rattle.file_plans.specs.Plan.{Hand, Return, after, bind, lifted, ◌>>=◌}
use Rattle.file_plans.specs.Rules.{IsKeptExit, IfOkay, Keeps, Rules}
use Rattle.file_plans.specs.Runs.{Deed as Done, exit_of}
use Rattle.file_plans.proofs.Acting.{acts}
use Rattle.file_plans.proofs.Keeping.{keeps_bind, run_keeps}
use Rattle.step_plans.specs.CommandFaults.{command_cause}
use Rattle.step_plans.specs.Commits.{IsBase}
use Rattle.step_plans.specs.ContextCommit.{context_name}
use Rattle.step_plans.specs.Pledges.{Pledge}
use Rattle.step_plans.specs.Promises.{Promises}
use Rattle.step_plans.specs.Settled.{AreSettled}
use Rattle.step_plans.specs.declared.command_fault.CommandFault.{CommandFault}
use Rattle.step_plans.specs.declared.command_fault.CommandFault.TheVariants as fault
use Rattle.step_plans.proofs.Asks.{Commits}
use Rattle.step_plans.proofs.Facts.{base_kept, lock_kept, none_settled}
use Rattle.step_plans.proofs.Going.{ByActs, Goes, Outcome, Sound, Soundly, goes_keeps, goes_lifted, goes_more, goes_then, okay, okay_more}
use Rattle.step_plans.proofs.Lasting.{KeptBy, keeping, lasting}
use Rattle.step_plans.proofs.Pledged.{Of}
use Rattle.step_plans.proofs.Promising.{keeps_pledge}
use Rattle.step_plans.proofs.Ruling.{AreNumbered, rules_of}
use Rattle.step_plans.proofs.Stepping.{goes_end, goes_on, goes_return, goes_stop}
use Rattle.step_plans.proofs.Written.{goes_at}
use Rattle.held_messages.specs.HeldPairs.{held_name}
use Rattle.held_messages.specs.declared.held.HeldPair.{HeldPair}
use Rattle.held_messages.proofs.ListedPairs.{IsPair, held_kind}
use Rattle.sequence_commits.proofs.SequencesPledged.{LeavesText, sequences_name}
use Rattle.command_stages.specs.Endings.{of_plan, if_room}
use Rattle.command_stages.specs.Texts.{Commanded}
use Rattle.message_moves.specs.Copying.{highest_of}
use Rattle.message_moves.specs.declared.destination.Destination.{Destination}
use Rattle.message_moves.proofs.CopyPledged.{IsOpenTo, places}
use Rattle.message_moves.proofs.MoveCopied.{SparesHeld}
use Rattle.opening_plans.specs.FolderPledge.{told_within}
use Rattle.opening_plans.specs.Making.{made_begun}
use Rattle.opening_plans.specs.Opening.{Opened, begun}
use Rattle.opening_plans.specs.Reads.{HaveSeen}
use Rattle.opening_plans.proofs.FolderPledged.{HasBegun, seen_kept}
use Rattle.refile_plans.specs.Gathering.{Gathered, all_begun, all_ended}
use Rattle.refile_plans.specs.Refile.{current_if, destination_of, gathered_refiled, messages_left, messages_stay, moved_by, names_source, opened_refiled, places_of, refile, refile_chosen, room_in, said_refiled, targets_of, unless_source}
use Rattle.refile_plans.specs.RefileDone.{HasRefiledChosen}
use Rattle.refile_plans.specs.RefilePledge.{Withdraws, destinations_of, folders_of}
use Rattle.refile_plans.specs.declared.job.RefileJob.{RefileJob}
use Rattle.refile_plans.proofs.AllEnded.{StillWith, all_ended_keeps}
use Rattle.refile_plans.proofs.BeginsAsks.{Begins, IsOthers, asks_begun, asks_made_begun}
use Rattle.refile_plans.proofs.FolderMarks as folder_marks
use Rattle.refile_plans.proofs.FolderNames.{all_destinations, destinations_apart, destinations_other, first_there, later_there}
use Rattle.refile_plans.proofs.RefileGathering.{AreBegun, AreOf, HasLocksOf, gathered_goes}
use Rattle.refile_plans.proofs.RefileLets.{HasReadOne, In, Known, destination_goes, lets_source, marks_source, open_to, p, read_one_kept, w, withdraws_kept}
use Rattle.refile_plans.proofs.RefileMoved.{HasHeldNone, HasLocks, Moved, To, left_there, refiled_kept, stay_there}
use Rattle.refile_plans.proofs.RmmPledged.{listed_runs}
use Rattle.refile_plans.proofs.Selected.{chosen_numbers}
use Rattle.mh_base.proofs.NumberTests.{AreNumbers}

module _ (run : ℕ) (few : run < 2 ^ 128) (path : List ℕ) (job : RefileJob) where
  abbrev pledge : Pledge
  pledge = w run few path job

  abbrev source : Place
  source = p run few path job

  abbrev mail : Place
  mail = Mail path

  abbrev names : List (List ℕ)
  names = destinations_of job

  -- a step that uses none of the run's held names of messages of the source
  abbrev Spares : Step → Type 0
  Spares s = (n : ℕ) → IsMsgNum n → SparesHeld source (entry_text (Held run n)) s

  none_kept : KeptBy Spares (HasHeldNone run source)
  none_kept own s a leaves f n ok = (leaves n ok, f n ok)

  -- nor lets its lock go, nor looks at its text or writes that anew
  abbrev Leaves : Step → Type 0
  Leaves s = LeavesText source s × Spares s

  -- commits elsewhere are such
  commits_away : (q : Place) (name : List ℕ) → (q ≡ source → ⊥) → Commits Leaves q name
  commits_away q name off = record {
    make = ((tt, tt), λ n ok. tt);
    lock = ((tt, tt), λ n ok. tt);
    list = ((tt, tt), λ n ok. tt);
    clear = λ temp is. ((tt, tt), λ n ok. tt);
    read = ((tt, λ same named. off same), λ n ok same named. off same);
    create = λ temp bytes. ((tt, tt), λ n ok. tt);
    sync_file = λ temp. ((tt, tt), λ n ok. tt);
    rename = λ temp. ((tt, λ same named. off same), λ n ok same named. off same);
    sync = ((tt, tt), λ n ok. tt);
    unlock = ((off, off), λ n ok. tt);
  }

  mail_apart : mail ≡ source → ⊥
  mail_apart e = cc (e)

  -- and so are the begins of other folders
  begins_away : (name : List ℕ) → Contains names name → Begins Leaves run (Folder path name) mail
  begins_away name c = record {
    text = commits_away (Folder path name) sequences_name off;
    context = commits_away mail context_name mail_apart;
    give = λ h number pair others. ((tt, tt), λ n ok same named. off same);
    drop = λ x. ((tt, tt), λ n ok. tt);
  }
    where
      off : Folder path name ≡ source → ⊥
      off e = destinations_other job name c (cc (e))

  asks_away : (name : List ℕ) → Contains names name → AsksOnly Leaves (made_begun run (Folder path name) mail name)
  asks_away name c = asks_made_begun Leaves run (Folder path name) mail (begins_away name c) name

  -- the begin of the source gives back only what other runs hold
  no_sequences : (n : ℕ) → IsMsgNum n → sequences_name ≡ entry_text (Held run n) → ⊥
  no_sequences n ok e = absurd (let same : Sequences ≡ Held run n = sym (kind_of-entry_text Sequences tt) ∙ (ap kind_of e ∙ kind_of-entry_text (Held run n) (few, ok)) in cc (same))

  not_own : (h : HeldPair) → IsPair h → IsOthers run h → (n : ℕ) → IsMsgNum n → held_name h ≡ entry_text (Held run n) → ⊥
  not_own h pair others n ok e =
      let same : Held h.run h.number ≡ Held run n = sym (held_kind h pair) ∙ (ap kind_of e ∙ kind_of-entry_text (Held run n) (few, ok)) in
      let alike : h.run ≡ run = cc (same) in absurd (let no : true ≡ false = sym ((Decides-eqb h.run run).1 alike) ∙ others in cc (no))

  begins_source : Begins Spares run source mail
  begins_source = record {
    text = record {
      make = λ n ok. tt;
      lock = λ n ok. tt;
      list = λ n ok. tt;
      clear = λ temp is. λ n ok. tt;
      read = λ n ok same named. no_sequences n ok named;
      create = λ temp bytes. λ n ok. tt;
      sync_file = λ temp. λ n ok. tt;
      rename = λ temp. λ n ok same named. no_sequences n ok named;
      sync = λ n ok. tt;
      unlock = λ n ok. tt;
    };
    context = record {
      make = λ n ok. tt;
      lock = λ n ok. tt;
      list = λ n ok. tt;
      clear = λ temp is. λ n ok. tt;
      read = λ n ok same named. mail_apart same;
      create = λ temp bytes. λ n ok. tt;
      sync_file = λ temp. λ n ok. tt;
      rename = λ temp. λ n ok same named. mail_apart same;
      sync = λ n ok. tt;
      unlock = λ n ok. tt;
    };
    give = λ h number pair others n ok same named. not_own h pair others n ok named;
    drop = λ x n ok. tt;
  }

  -- the source is begun
  abbrev Began : List Deed → Outcome Opened
  Began own later j o = HasHeldNone run source later × HasBegun pledge own path job.source later o

  source_goes : (own : List Deed) (h : Hand) → HasHeldNone run source own → Goes pledge own h (lifted (of_plan job.source) (begun run source mail job.source)) (okay (Began own))
  source_goes own h none =
      goes_lifted pledge own h (of_plan job.source) (begun run source mail job.source) (Began own)
      (keeping pledge Spares (HasHeldNone run source) none_kept own h (begun run source mail job.source) (λ later j o. HasBegun pledge own path job.source later o) (asks_begun Spares run source mail begins_source job.source) none
      (folder_marks.source_goes pledge few path job.source (Withdraws run path job) (job.set_current ≡ true) (lets_source run few path job) (withdraws_kept run few path job) (marks_source run few path job) own h))

  -- what the destinations are, once they were begun
  destinations_are : (ns : List (List ℕ)) (os : List Opened) → AreOf path ns os → ((n : List ℕ) → Contains ns n → Contains names n) → (own : List Deed) → To run few path job (map destination_of os) own
  destinations_are [] [] are among own = tt
  destinations_are [] (o ∷ os) are among own = absurd are
  destinations_are (n ∷ ns) [] are among own = absurd are
  destinations_are (n ∷ ns) (o ∷ os) are among own = (
    record {
      open_to = subst (IsOpenTo pledge few source (In run few path job) (Known run few path job) (HasReadOne run few path job) (read_one_kept run few path job)) (sym are.0.0) (open_to run few path job n (among n (first_there n ns)));
      number = are.0.1;
      known = tt;
    },
    destinations_are ns os are.1 (λ m c. among m (later_there n ns m c)) own,
  )

  places_are : (ns : List (List ℕ)) (os : List Opened) → AreOf path ns os → places (map destination_of os) ≡ folders_of path ns
  places_are [] [] are = refl
  places_are [] (o ∷ os) are = absurd are
  places_are (n ∷ ns) [] are = absurd are
  places_are (n ∷ ns) (o ∷ os) are = ap (λ z. z ∷ places (map destination_of os)) are.0.0 ∙ ap (λ z. Folder path n ∷ z) (places_are ns os are.1)

  locks_are : (own : List Deed) → HasLock source own → HasLocksOf path names own → HasLocks run few path job own
  locks_are own lock locks q (inl same) = subst (λ z. HasLock z own) (sym same) lock
  locks_are own lock locks q (inr is) = subst (λ z. HasLock z own) (sym is.2) (locks is.0 is.1)

  -- no room is a refusal, and asks nothing
  if_room_goes : (v : Bool) (folder : List ℕ) (own : List Deed) (h : Hand) → Goes pledge own h (if_room v folder) (okay (λ later j u. later ≡ own))
  if_room_goes true folder own h = goes_return pledge own h tt (okay (λ later j u. later ≡ own)) refl
  if_room_goes false folder own h = goes_end pledge own h (fault.Refused (refusal.Full folder)) (λ later j u. later ≡ own)

  room_goes : (ds : List Destination) (count : ℕ) (own : List Deed) (h : Hand) → Goes pledge own h (room_in ds count) (okay (λ later j u. later ≡ own))
  unfolding room_in
  room_goes [] count own h = goes_return pledge own h tt (okay (λ later j u. later ≡ own)) refl
  room_goes (d ∷ ds) count own h =
      goes_then pledge own h (if_room (nat_le (highest_of d.highest + count) 999999) d.folder) (λ room. room_in ds count) (λ later j u. later ≡ own) (λ later j u. later ≡ own) (if_room_goes (nat_le (highest_of d.highest + count) 999999) d.folder own h)
      (λ later j u e. goes_at pledge later own j (room_in ds count) (okay (λ last i v. last ≡ own)) e (room_goes ds count own j))

  -- the work on a source that was begun, and on destinations
  module _ (begin start : List Deed) (o : Opened) (b : HasBegun pledge begin path job.source start o) where
    abbrev told : Marked
    told = told_within o.listing b.text b.context job.source

    -- what lasts of the source while the destinations are begun
    record Had (later : List Deed) : Type 0 where
      lock : HasLock source later
      base : IsBase run source sequences_name b.base.0 later
      seen : HaveSeen run source mail o.listing b.text b.context later
      none : HasHeldNone run source later

    had_kept : KeptBy Leaves Had
    had_kept own s a leaves f = record {
      lock = lock_kept source own s a leaves.0.0 f.lock;
      base = base_kept run source sequences_name b.base.0 own s a leaves.0.1 f.base;
      seen = seen_kept run source mail o.listing b.text b.context own s a tt f.seen;
      none = none_kept own s a leaves.1 f.none;
    }

    had : HasHeldNone run source start → Had start
    had none = record { lock = b.held.lock; base = b.base.1; seen = b.seen; none = none }

    abbrev AllBegun : List Deed → List Opened → Result Unit CommandFault → Type 0
    AllBegun later os r = AreBegun path pledge names Leaves Had had_kept (λ name c own h. destination_goes run few path job name c own h) asks_away names start later os r

    gathers : (h : Hand) → Had start → Goes pledge start h (all_begun run path names []) (λ later j g. AllBegun later g.opened g.end)
    gathers h f = gathered_goes path pledge names Leaves Had had_kept (λ name c own i. destination_goes run few path job name c own i) asks_away start h (destinations_apart job) f

    -- all were begun
    module _ (own : List Deed) (os : List Opened) (are : AreOf path names os) (locks : HasLocksOf path names own) (f : Had own) where
      abbrev ds : List Destination
      ds = map destination_of os

      abbrev Ends : Outcome Unit
      Ends = Moved run few path job o.listing b.text b.context b.base.0 own

      abbrev room_then : List ℕ → Unit {0} → Commanded Unit
      room_then numbers apart = room_in ds (length numbers) >>= (λ room. moved_by job.link run path job o ds numbers)

      abbrev rest : List ℕ → Commanded Unit
      rest numbers = unless_source (names_source job) job.source >>= room_then numbers

      all_numbers : (numbers : List ℕ) → refile_chosen job o.listing told ≡ Ok numbers → AreNumbers numbers
      all_numbers numbers is = chosen_numbers (record { folder = job.source; specs = job.specs; unlink = false; negation = job.negation }) o.listing told numbers is (listed_runs run source mail o.listing b.text b.context own f.seen)

      same_places : names_source job ≡ false → places ds ≡ folders_of path (targets_of job)
      same_places apart = places_are names os are ∙ ap (folders_of path) (all_destinations job apart)

      by_link : (v : Bool) → job.link ≡ v → names_source job ≡ false → (numbers : List ℕ) → refile_chosen job o.listing told ≡ Ok numbers → (h : Hand) → Goes pledge own h (moved_by v run path job o ds numbers) (okay Ends)
      unfolding messages_left messages_stay
      by_link true link apart numbers is h =
          stay_there run few path job o.listing b.text b.context b.base.0 own numbers is (all_numbers numbers is) ds (same_places apart) apart link o.place b.place own h (record { settled = λ s. s; seen = f.seen }) (locks_are own f.lock locks) (destinations_are names os are (λ n c. c) own)
      by_link false link apart numbers is h =
          left_there run few path job o.listing b.text b.context b.base.0 own numbers is (all_numbers numbers is) ds (same_places apart) apart link o.place o.folder o.sequences b.place b.name b.sequences own h f.none (record { settled = λ s. s; seen = f.seen; base = f.base }) (locks_are own f.lock locks) (destinations_are names os are (λ n c. c) own)

      by_source : (v : Bool) → names_source job ≡ v → (numbers : List ℕ) → refile_chosen job o.listing told ≡ Ok numbers → (h : Hand) → Goes pledge own h (unless_source v job.source >>= room_then numbers) (okay Ends)
      by_source true apart numbers is h = goes_stop pledge own h (fault.Refused (refusal.SameFolder job.source)) (room_then numbers) Ends
      by_source false apart numbers is h =
          goes_on pledge own h tt (room_then numbers) (okay Ends)
          (goes_then pledge own h (room_in ds (length numbers)) (λ room. moved_by job.link run path job o ds numbers) (λ later j u. later ≡ own) Ends (room_goes ds (length numbers) own h)
          (λ later j u e. goes_at pledge later own j (moved_by job.link run path job o ds numbers) (okay Ends) e (by_link job.link refl apart numbers is j)))

      by_value : (value : Result (List ℕ) CommandFault) → refile_chosen job o.listing told ≡ value → (h : Hand) → Goes pledge own h (Return value >>= rest) (okay Ends)
      by_value (Ok numbers) is h = goes_on pledge own h numbers rest (okay Ends) (by_source (names_source job) refl numbers is h)
      by_value (Err e) is h = goes_stop pledge own h e rest Ends

      said_goes : (h : Hand) → Goes pledge own h (said_refiled run path job o ds) (okay Ends)
      unfolding said_refiled
      said_goes h = subst (λ m. Goes pledge own h (Return (refile_chosen job o.listing m) >>= rest) (okay Ends)) (sym b.sequences) (by_value (refile_chosen job o.listing told) refl h)

      -- where it is done what was settled is settled still, and the messages went
      abbrev Kept_ : Outcome Unit
      Kept_ later j u = (AreSettled own → AreSettled later) × HasRefiledChosen run path job later

      by_current : (v : Bool) → job.set_current ≡ v → (later : List Deed) (j : Hand) → Ends later j tt → Goes pledge later j (current_if v run path job.source) (okay Kept_)
      by_current true is later j e =
          goes_more pledge later j (current_if true run path job.source) (okay (λ end i v. HasRefiledChosen run path job end × (AreSettled later → AreSettled end))) (okay Kept_)
          (okay_more (λ end i v. HasRefiledChosen run path job end × (AreSettled later → AreSettled end)) Kept_ (λ end i v g. ((λ s. g.1 (e.1 s)), g.0)))
          (lasting pledge (HasRefiledChosen run path job) (refiled_kept run few path job) later j (current_if true run path job.source) (Of (λ end. AreSettled later → AreSettled end)) e.2
          (folder_marks.current_goes pledge few path job.source (Withdraws run path job) (job.set_current ≡ true) (lets_source run few path job) (withdraws_kept run few path job) (marks_source run few path job) is later j o.listing b.text b.context e.0))
      by_current false is later j e = goes_return pledge later j tt (okay Kept_) (e.1, e.2)

      opened_goes : (h : Hand) → Goes pledge own h (opened_refiled run path job o os) (okay Kept_)
      unfolding opened_refiled
      opened_goes h = goes_then pledge own h (said_refiled run path job o ds) (λ moved. current_if job.set_current run path job.source) Ends Kept_ (said_goes h) (λ later j u e. by_current job.set_current refl later j e)

    -- whatever was begun
    abbrev StillBegun : Outcome Unit
    StillBegun later j u = (AreSettled start → AreSettled later) × HasRefiledChosen run path job later

    work_goes : (own : List Deed) (g : Gathered) → AllBegun own g.opened g.end → (h : Hand) → Goes pledge own h (gathered_refiled run path job o g) (okay StillBegun)
    work_goes own g q h = by g.end q
      where
        by : (r : Result Unit CommandFault) → AllBegun own g.opened r → Goes pledge own h (Return r >>= (λ all. opened_refiled run path job o g.opened)) (okay StillBegun)
        by (Ok u) z =
            goes_on pledge own h u (λ all. opened_refiled run path job o g.opened) (okay StillBegun)
            (goes_more pledge own h (opened_refiled run path job o g.opened) (okay (Kept_ own g.opened z.0 z.1 z.2)) (okay StillBegun) (okay_more (Kept_ own g.opened z.0 z.1 z.2) StillBegun (λ later j v k. ((λ s. k.0 (z.3 s)), k.1))) (opened_goes own g.opened z.0 z.1 z.2 h))
        by (Err e) z = goes_stop pledge own h e (λ all. opened_refiled run path job o g.opened) StillBegun

  -- where it is done, what was settled is settled still, no step has failed, and each message that the words choose went to all folders that they name
  abbrev pub EndsRefiled : List Deed → List Done → Hand → Unit {0} → Type 0
  EndsRefiled own past h u = StillWith pledge (HasRefiledChosen run path job) (refiled_kept run few path job) own past h u

  refused_keeps : (own : List Deed) (later : List Done) (j : Hand) (e : CommandFault) → AreNumbered run j.next (acts later) → Keeps (rules_of pledge) later j (Return (Err e)) (IfOkay (EndsRefiled own))
  unfolding Keeps
  refused_keeps own later j e n = (n, tt)

  -- `refile` keeps the rules of its pledge, where its run has used none of its held names of messages of the source before
  pub refile_keeps : (past : List Done) (h : Hand) → HasHeldNone run source (acts past) → Sound pledge (acts past) h → Keeps (rules_of pledge) past h (refile run path job) (IfOkay (EndsRefiled (acts past)))
  unfolding refile ◌>>=◌
  refile_keeps past h none sound =
      keeps_bind u past h (lifted (of_plan job.source) (begun run source mail job.source)) (after work) (ByActs (Soundly pledge (okay (Began own)))) (IfOkay (EndsRefiled own))
      (goes_keeps pledge past own h (lifted (of_plan job.source) (begun run source mail job.source)) (okay (Began own)) refl sound (source_goes own h none)) (λ later j r q. on_begun later j r q.0 q.1)
    where
      own : List Deed
      own = acts past

      u : Rules
      u = rules_of pledge

      ended : Opened → Gathered → Commanded Unit
      ended o g = bind (gathered_refiled run path job o g) (all_ended (places_of o g))

      work : Opened → Commanded Unit
      work o = bind (all_begun run path names []) (ended o)

      still_so : (start : List Deed) (last : List Done) (i : Hand) (e : Result Unit CommandFault) → (AreSettled own → AreSettled start) → Sound pledge (acts last) i → okay (λ later j v. (AreSettled start → AreSettled later) × HasRefiledChosen run path job later) (acts last) i e → IfOkay (EndsRefiled own) last i e
      still_so start last i (Ok v) f s m = (record { settled = λ x. m.0 (f x); unfailed = s.unfailed }, m.1)
      still_so start last i (Err e) f s m = tt

      on_gathered : (start : List Done) (o : Opened) (b : HasBegun pledge own path job.source (acts start) o) (later : List Done) (j : Hand) (g : Gathered) → Sound pledge (acts later) j → AllBegun own (acts start) o b (acts later) g.opened g.end → Keeps u later j (ended o g) (IfOkay (EndsRefiled own))
      on_gathered start o b later j g s q =
          keeps_bind u later j (gathered_refiled run path job o g) (all_ended (places_of o g)) (ByActs (Soundly pledge (okay (StillBegun own (acts start) o b)))) (IfOkay (EndsRefiled own))
          (goes_keeps pledge later (acts later) j (gathered_refiled run path job o g) (okay (StillBegun own (acts start) o b)) refl s (work_goes own (acts start) o b (acts later) g q j))
          (λ last i e z. all_ended_keeps pledge (HasRefiledChosen run path job) (refiled_kept run few path job) own last i (places_of o g) e z.0.numbered (still_so (acts start) last i e b.held.settled z.0 z.1))

      on_begun : (later : List Done) (j : Hand) (r : Result Opened CommandFault) → Sound pledge (acts later) j → okay (Began own) (acts later) j r → Keeps u later j (after work r) (IfOkay (EndsRefiled own))
      on_begun later j (Ok o) s b =
          keeps_bind u later j (all_begun run path names []) (ended o) (ByActs (Soundly pledge (λ last i g. AllBegun own (acts later) o b.1 last g.opened g.end))) (IfOkay (EndsRefiled own))
          (goes_keeps pledge later (acts later) j (all_begun run path names []) (λ last i g. AllBegun own (acts later) o b.1 last g.opened g.end) refl s (gathers own (acts later) o b.1 j (had own (acts later) o b.1 b.0)))
          (λ last i g z. on_gathered later o b.1 last i g z.0 z.1)
      on_begun later j (Err e) s b = refused_keeps own later j e s.numbered

  from_first : (h : Hand) → Keeps (rules_of pledge) [] h (refile run path job) (IfOkay (EndsRefiled []))
  from_first h = refile_keeps [] h (λ n ok. tt) (record { numbered = tt; unfailed = λ z. elim z [ ] })

  -- where a call of it is done, its deeds are such
  pub refile_done : (x y : State) (result : Result Unit CommandFault) (f : Follows run command_cause (refile run path job) x y result) → result ≡ Ok tt → HasRefiledChosen run path job (acts (deeds_in f.went.log)) × AreSettled (acts (deeds_in f.went.log))
  refile_done x y result f is =
      let kept = run_keeps (rules_of pledge) [] x.hand (refile run path job) (deeds_in f.went.log) y.hand (exit_of command_cause result) (IfOkay (EndsRefiled [])) (from_first x.hand) f.went.runs in
      let ends : EndsRefiled [] (deeds_in f.went.log) y.hand tt = subst (λ r. IsKeptExit (rules_of pledge) (IfOkay (EndsRefiled [])) (deeds_in f.went.log) y.hand (exit_of command_cause r)) is kept.gave in
      (ends.1, ends.0.settled none_settled)

  -- so a run of it does what it promises
  pub refile_promises : (x y : State) (result : Result Unit CommandFault) → Follows run command_cause (refile run path job) x y result → Promises pledge x y
  refile_promises x y result f = keeps_pledge pledge command_cause (refile run path job) x y result (IfOkay (EndsRefiled [])) (from_first x.hand) f
