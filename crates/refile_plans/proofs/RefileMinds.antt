-- Each step of `refile` minds the marks of all sequences, where no message is held aside in the source when it takes one.
use Rattle.std.proofs.Common.{◌≡◌, inr, ◌<◌, ◌+◌, ◌^◌, ◌∷◌, [], ℕ, Bool, true, false, List, Result, Ok, Err, length, nat_le, refl, sym, subst}
use Rattle.std.specs.Prelude.{Contains, IfSome, map}
use Rattle.mh_base.specs.Entries.{kind_of}
use Rattle.mh_base.specs.Numbers.{IsMsgNum}
use Rattle.mh_base.specs.declared.entry.Entry.TheVariants.{Number}
use Rattle.mh_sequences.specs.declared.mark.Mark.TheVariants.{Withdraw}
use Rattle.mh_sequences.specs.Runs.{has, set_of}
use Rattle.mh_sequences.specs.Sequences.{AreSequences, Marked}
use Rattle.msg_ranges.proofs.Rising.{Rise, lists}
use Rattle.folder_files.specs.Deeds.{Deed, did}
use Rattle.folder_files.specs.declared.place.Place.{Place}
use Rattle.folder_files.specs.declared.place.Place.TheVariants.{Folder, Mail}
use Rattle.folder_files.specs.declared.refusal.Refusal.TheVariants as refusal
use Rattle.folder_files.specs.declared.step.Answer.TheVariants as answer
use Rattle.folder_files.specs.declared.step.Step.{Step}
use Rattle.folder_files.specs.declared.step.Step.TheVariants as step
use Rattle.file_plans.specs.Plan.{Hand, Plan, Return, after, bind, lifted, ◌>>=◌}
use Rattle.step_plans.specs.ContextCommit.{AreChanges}
use Rattle.step_plans.specs.Locking.{lock_name}
use Rattle.step_plans.specs.PlanFaults.{of_stop}
use Rattle.step_plans.specs.Pledges.{MayAsk, Pledge}
use Rattle.step_plans.specs.Replacing.{held_to, synced}
use Rattle.step_plans.specs.declared.command_fault.CommandFault.{CommandFault}
use Rattle.step_plans.specs.declared.command_fault.CommandFault.TheVariants as command
use Rattle.step_plans.specs.declared.fault.PlanFault.{PlanFault}
use Rattle.step_plans.specs.declared.fault.PlanFault.TheVariants as fault
use Rattle.step_plans.proofs.Going.{Goes, Outcome, Sound, okay}
use Rattle.marks_law.specs.Apart as apart
use Rattle.sequence_commits.specs.Committing.{changed_sequences}
use Rattle.sequence_commits.specs.RunsOfAll.{set_among}
use Rattle.sequence_commits.proofs.MarkedOnce.{marked_valid}
use Rattle.command_stages.specs.Current.{current_change, made_current}
use Rattle.command_stages.specs.Endings.{of_plan, if_room}
use Rattle.command_stages.specs.Texts.{Commanded}
use Rattle.message_moves.specs.Copying.{highest_of, messages_copied}
use Rattle.message_moves.specs.Refiling.{messages_refiled}
use Rattle.message_moves.specs.declared.destination.Destination.{Destination}
use Rattle.opening_plans.specs.FolderPledge.{told_within}
use Rattle.opening_plans.specs.Making.{made_begun}
use Rattle.opening_plans.specs.Opening.{Opened, begun}
use Rattle.opening_plans.proofs.AllMarks.{MindsAll, look_minds}
use Rattle.opening_plans.proofs.BegunSeen.{HasSeenBegun, begun_meets}
use Rattle.opening_plans.proofs.ChosenListed.{marked_cur_is, tested_has}
use Rattle.opening_plans.proofs.CommitMinds.{Facts, IsTold, Within, changed_meets}
use Rattle.opening_plans.proofs.FolderPledged.{HasBegun}
use Rattle.opening_plans.proofs.FolderSeen.{quiet_seen}
use Rattle.opening_plans.proofs.FreeMarks.{FreesOthers}
use Rattle.opening_plans.proofs.MadeMinds.{meets_going}
use Rattle.opening_plans.proofs.Meeting.{Meets, meets_bind, meets_end, meets_lifted, meets_more, meets_okay, meets_on, meets_return, meets_stop, meets_sync_folder, meets_then, meets_weaker}
use Rattle.opening_plans.proofs.ToldMarks.{InListing, told_cur, told_listed}
use Rattle.opening_plans.proofs.WorkMinds.{Anyhow, current_meets}
use Rattle.refile_plans.specs.Gathering.{Gathered, all_begun, all_ended}
use Rattle.refile_plans.specs.Refile.{current_if, destination_of, gathered_refiled, messages_left, messages_stay, moved_by, names_source, opened_refiled, places_of, refile, refile_chosen, room_in, said_refiled, unless_source}
use Rattle.refile_plans.specs.RefileHeld.{TakesUnheld}
use Rattle.refile_plans.specs.RefilePledge.{Withdraws, destinations_of}
use Rattle.refile_plans.specs.Rmm.{withdrawn}
use Rattle.refile_plans.specs.declared.job.RefileJob.{RefileJob}
use Rattle.refile_plans.specs.declared.job.RmmJob.{RmmJob}
use Rattle.refile_plans.proofs.CopiesMind.{AllOpen, all_open_of}
use Rattle.refile_plans.proofs.EndedMinds.{all_ended_meet}
use Rattle.refile_plans.proofs.FolderMarks as folder_marks
use Rattle.refile_plans.proofs.FolderNames.{destinations_apart, destinations_other, first_there, later_there}
use Rattle.refile_plans.proofs.FoldersMinded.{AllMinded, AreToldApart, HasMinded, IsToldAll, NoneUnlinkedIn, minds_fewer, none_kept_begun}
use Rattle.refile_plans.proofs.GatheredMinds.{AreMinded, gathered_meet}
use Rattle.refile_plans.proofs.LeaveMinds.{At, all_refiled_meet}
use Rattle.refile_plans.proofs.Meetings.{AnyAsk, meets_okay_both, meets_okay_sound, meets_value}
use Rattle.refile_plans.proofs.RefileLets.{destination_goes, lets_source, marks_source, w, withdraws_kept}
use Rattle.refile_plans.proofs.RmmMinds.{withdrawn_member}
use Rattle.refile_plans.proofs.Selected.{chosen_numbers, chosen_rise, listed_one}
use Rattle.refile_plans.proofs.StayMinds.{all_copied_meet}
use Rattle.refile_plans.proofs.UnmarkedNumbers.{IsUnmarkedIn, unmarked_of}
use Rattle.mh_base.proofs.NumberTests.{AreNumbers}

-- the names of the folders that the run begins
abbrev pub begun_names : RefileJob → List (List ℕ)
begun_names job = job.source ∷ destinations_of job

-- the step minds all marks, where no message is held aside when it takes one
abbrev pub MindsTaking : (List ℕ → Type 0) → ℕ → List Deed → Step → Type 0
MindsTaking Of run own s = TakesUnheld own s → MindsAll Of run own s

module _ (run : ℕ) (few : run < 2 ^ 128) (path : List ℕ) (job : RefileJob) (ok : AreChanges (current_change job.source)) (told : AreToldApart (begun_names job)) where
  abbrev pledge : Pledge
  pledge = w run few path job

  abbrev p : Place
  p = Folder path job.source

  abbrev mail : Place
  mail = Mail path

  abbrev all : List (List ℕ)
  all = destinations_of job

  abbrev Of : List ℕ → Type 0
  Of other = IsToldAll (begun_names job) other

  abbrev Of_source : List ℕ → Type 0
  Of_source other = IsTold job.source other

  abbrev A : List Deed → Step → Type 0
  A own s = MindsTaking Of run own s

  abbrev M : {R : Type 0} → List Deed → Hand → Plan R → Outcome R → Type 0
  M own h plan Q = Meets (MayAsk pledge) A own h plan Q

  by_source : (own : List Deed) (s : Step) → MindsAll Of_source run own s → A own s
  by_source own s f unheld = minds_fewer Of_source Of (λ other is. is job.source (first_there job.source all)) run own s f

  by_all : (own : List Deed) (s : Step) → MindsAll Of run own s → A own s
  by_all own s f unheld = f

  away : (m : List ℕ) → Contains all m → m ≡ job.source → ⊥
  away m c = destinations_other job m c

  -- the words' numbers, as a job of `rmm` has them
  abbrev like_rmm : RmmJob
  like_rmm = record { folder = job.source; specs = job.specs; unlink = false; negation = job.negation }

  -- the work on a source that was begun, and on destinations
  module _ (start : List Deed) (o : Opened) (os : List Opened) (f : HasMinded run path job.source start o) where
    abbrev b : HasSeenBegun path job.source start o
    b = f.begun

    abbrev seen : Marked
    seen = told_within o.listing b.text b.context job.source

    abbrev ds : List Destination
    ds = map destination_of os

    abbrev FactsOf : (List ℕ → Type 0) → List Deed → Type 0
    FactsOf There later = Facts pledge path job.source b.names There later

    -- what is known of them
    abbrev Ready : List Deed → Type 0
    Ready own = (FactsOf (InListing o.listing) own × ((j : ℕ) → has o.listing j ≡ false → IsUnmarkedIn run path job.source j own)) × AllOpen run path all ds own

    -- what is known of the source at the end
    abbrev None_ : List ℕ → Type 0
    None_ z = ⊥

    abbrev Ends : Outcome Unit
    Ends later j u = FactsOf None_ later

    fewer : (There : List ℕ → Type 0) (later : List Deed) → FactsOf There later → FactsOf None_ later
    fewer There later g = (record { lock = g.0.lock; there = λ z so number. absurd so; held = g.0.held; listed = g.0.listed }, g.1)

    -- these numbers were chosen
    module _ (numbers : List ℕ) (valid : AreNumbers numbers) (rise : Rise 1 numbers) where
      abbrev chosen : ℕ → Bool
      chosen k = has (set_among numbers) k

      abbrev Left : List ℕ → Type 0
      Left z = (n : ℕ) × (kind_of z ≡ Number n) × (has o.listing n ≡ true) × (chosen n ≡ false)

      are_chosen : (k : ℕ) → lists numbers k ≡ true → chosen k ≡ true
      are_chosen k e = tested_has _ k (listed_one numbers valid k e) e

      withdrawn_in : Within Left (withdrawn numbers seen)
      withdrawn_in z n sequence kind e = let parts = withdrawn_member numbers seen sequence n e in (n, kind, told_listed o.listing b.text b.context job.source sequence n parts.0, parts.1)

      withdrawn_valid : AreSequences (withdrawn numbers seen).users
      withdrawn_valid = marked_valid (Withdraw (set_of (set_among numbers) 0)) seen

      withdrawn_cur : IfSome (withdrawn numbers seen).cur IsMsgNum
      withdrawn_cur = subst (λ z. IfSome z IsMsgNum) (sym (marked_cur_is (Withdraw (set_of (set_among numbers) 0)) seen)) (told_cur o.listing b.text b.context job.source)

      -- they leave the sequences
      synced_meets : (own : List Deed) (h : Hand) → FactsOf Left own → M own h (synced p lock_name) (okay (λ later j u. FactsOf Left later))
      unfolding synced
      synced_meets own h g =
          meets_sync_folder (MayAsk pledge) A own h of_stop (okay (λ later j u. FactsOf Left later)) p (held_to p lock_name)
          (λ may. (
            (λ unheld. look_minds Of run own (step.SyncFolder p) tt),
            meets_return (MayAsk pledge) A (did (step.SyncFolder p) answer.Done ∷ own) h tt (okay (λ later j u. FactsOf Left later)) (quiet_seen pledge p b.names Left own (step.SyncFolder p) answer.Done may tt g.0, (λ sequence. apart.on (λ e. cc (e)) (λ temp e. cc (e)) (g.1 sequence))),
            meets_end (MayAsk pledge) A (did (step.SyncFolder p) answer.Gone ∷ own) h (fault.Meddled p lock_name) (λ later j u. FactsOf Left later),
          ))

      committed_meets : (own : List Deed) (h : Hand) → FactsOf Left own → M own h (lifted (of_plan job.source) (changed_sequences run p mail job.source seen (withdrawn numbers seen))) (okay Ends)
      committed_meets own h g =
          meets_lifted (MayAsk pledge) A own h (of_plan job.source) (changed_sequences run p mail job.source seen (withdrawn numbers seen)) Ends
          (meets_okay (MayAsk pledge) A own h (changed_sequences run p mail job.source seen (withdrawn numbers seen)) (λ later j u. FactsOf Left later) Ends (λ later j u k. fewer Left later k)
          (meets_weaker (MayAsk pledge) (MindsAll Of_source run) A by_source own h (changed_sequences run p mail job.source seen (withdrawn numbers seen)) (okay (λ later j u. FactsOf Left later))
          (changed_meets pledge path job.source b.names Left (withdrawn numbers seen) withdrawn_valid withdrawn_cur withdrawn_in own h seen g)))

      abbrev AtNumber : ℕ → List Deed → Type 0
      AtNumber low later = At Of pledge few path job.source b.names o.listing chosen low later

      at_first : (own : List Deed) → Ready own → AtNumber 1 own
      at_first own g = ((record { lock = g.0.0.0.lock; there = λ z so number. g.0.0.0.there z (so.0, so.1, so.2) number; held = g.0.0.0.held; listed = g.0.0.0.listed }, g.0.0.1), g.0.1)

      at_last : (own : List Deed) (high : ℕ) → AtNumber high own → FactsOf Left own
      at_last own high g = (record { lock = g.0.0.lock; there = λ z so number. g.0.0.there z (so.0, so.1, so.2, inr so.3) number; held = g.0.0.held; listed = g.0.0.listed }, g.0.1)

      -- messages leave
      abbrev left_so : Place → List ℕ → Marked → Commanded Unit
      left_so q n m = messages_refiled run job.source q numbers ds >>= (λ gone. lifted (of_plan job.source) (synced q lock_name) >>= (λ safe. lifted (of_plan job.source) (changed_sequences run q mail n m (withdrawn numbers m))))

      left_meets : (own : List Deed) (h : Hand) → Ready own → M own h (left_so p job.source seen) (okay Ends)
      left_meets own h g =
          meets_then (MayAsk pledge) A own h (messages_refiled run job.source p numbers ds) (λ gone. lifted (of_plan job.source) (synced p lock_name) >>= (λ safe. lifted (of_plan job.source) (changed_sequences run p mail job.source seen (withdrawn numbers seen))))
          (λ later j (x : List Destination). (high : ℕ) × AtNumber high later) Ends
          (all_refiled_meet Of pledge few path job.source b.names o.listing chosen all away numbers 1 rise valid are_chosen ds own h (at_first own g) g.1)
          (λ first j x k.
          meets_then (MayAsk pledge) A first j (lifted (of_plan job.source) (synced p lock_name)) (λ safe. lifted (of_plan job.source) (changed_sequences run p mail job.source seen (withdrawn numbers seen))) (λ later i u. FactsOf Left later) Ends
          (meets_lifted (MayAsk pledge) A first j (of_plan job.source) (synced p lock_name) (λ later i u. FactsOf Left later) (synced_meets first j (at_last first k.0 k.1)))
          (λ second i u z. committed_meets second i z))

      left_at : (q : Place) (n : List ℕ) (m : Marked) → q ≡ p → n ≡ job.source → m ≡ seen → (own : List Deed) (h : Hand) → Ready own → M own h (left_so q n m) (okay Ends)
      left_at q n m place name is own h g = rw (place, name, is) (left_meets own h g)

      -- or stay
      stay_at : (q : Place) → q ≡ p → (own : List Deed) (h : Hand) → Ready own → M own h (messages_copied run job.source q numbers ds >>= (λ copied. Return (Ok tt))) (okay Ends)
      stay_at q place own h g =
          subst (λ z. M own h (messages_copied run job.source z numbers ds >>= (λ copied. Return (Ok tt))) (okay Ends)) (sym place)
          (meets_then (MayAsk pledge) A own h (messages_copied run job.source p numbers ds) (λ copied. Return (Ok tt)) (λ later j (x : List Destination). FactsOf (InListing o.listing) later × AllOpen run path all x later) Ends
          (meets_weaker (MayAsk pledge) (MindsAll Of run) A by_all own h (messages_copied run job.source p numbers ds) (okay (λ later j (x : List Destination). FactsOf (InListing o.listing) later × AllOpen run path all x later))
          (all_copied_meet Of pledge path job.source b.names (InListing o.listing) all away numbers valid ds own h g.0.0 g.1))
          (λ later j x k. meets_return (MayAsk pledge) A later j tt (okay Ends) (fewer (InListing o.listing) later k.0)))

      moved_meets : (v : Bool) (own : List Deed) (h : Hand) → Ready own → M own h (moved_by v run path job o ds numbers) (okay Ends)
      unfolding messages_left messages_stay
      moved_meets true own h g = stay_at o.place b.place own h g
      moved_meets false own h g = left_at o.place o.folder o.sequences b.place b.name b.sequences own h g

    -- refusals ask nothing
    apart_meets : (v : Bool) (own : List Deed) (h : Hand) → Ready own → M own h (unless_source v job.source) (okay (λ later j u. Ready later))
    apart_meets true own h g = meets_end (MayAsk pledge) A own h (command.Refused (refusal.SameFolder job.source)) (λ later j u. Ready later)
    apart_meets false own h g = meets_return (MayAsk pledge) A own h tt (okay (λ later j u. Ready later)) g

    if_room_meets : (v : Bool) (folder : List ℕ) (own : List Deed) (h : Hand) → Ready own → M own h (if_room v folder) (okay (λ later j u. Ready later))
    if_room_meets true folder own h g = meets_return (MayAsk pledge) A own h tt (okay (λ later j u. Ready later)) g
    if_room_meets false folder own h g = meets_end (MayAsk pledge) A own h (command.Refused (refusal.Full folder)) (λ later j u. Ready later)

    room_meets : (to : List Destination) (count : ℕ) (own : List Deed) (h : Hand) → Ready own → M own h (room_in to count) (okay (λ later j u. Ready later))
    unfolding room_in
    room_meets [] count own h g = meets_return (MayAsk pledge) A own h tt (okay (λ later j u. Ready later)) g
    room_meets (d ∷ to) count own h g =
        meets_then (MayAsk pledge) A own h (if_room (nat_le (highest_of d.highest + count) 999999) d.folder) (λ room. room_in to count) (λ later j u. Ready later) (λ later j u. Ready later) (if_room_meets (nat_le (highest_of d.highest + count) 999999) d.folder own h g)
        (λ later j u k. room_meets to count later j k)

    said_meets : (own : List Deed) (h : Hand) → Ready own → M own h (said_refiled run path job o ds) (okay Ends)
    unfolding said_refiled
    said_meets own h g =
        meets_value (MayAsk pledge) A own h (refile_chosen job o.listing o.sequences) (λ numbers. unless_source (names_source job) job.source >>= (λ apart. room_in ds (length numbers) >>= (λ room. moved_by job.link run path job o ds numbers))) Ends
        (λ numbers is.
        meets_then (MayAsk pledge) A own h (unless_source (names_source job) job.source) (λ apart. room_in ds (length numbers) >>= (λ room. moved_by job.link run path job o ds numbers)) (λ later j u. Ready later) Ends (apart_meets (names_source job) own h g)
        (λ first j u k.
        meets_then (MayAsk pledge) A first j (room_in ds (length numbers)) (λ room. moved_by job.link run path job o ds numbers) (λ later i v. Ready later) Ends (room_meets ds (length numbers) first j k)
        (λ second i v z. moved_meets numbers (chosen_numbers like_rmm o.listing o.sequences numbers is b.runs) (chosen_rise like_rmm o.listing o.sequences numbers is) job.link second i z)))

    -- the source becomes the current folder, where it is to
    abbrev Done_ : Outcome Unit
    Done_ later j u = Unit {0}

    current_so : (v : Bool) (own : List Deed) (h : Hand) → FactsOf None_ own → M own h (current_if v run path job.source) (okay Done_)
    current_so true own h g =
        meets_okay (MayAsk pledge) A own h (made_current run path job.source) Ends Done_ (λ later j u k. tt)
        (meets_weaker (MayAsk pledge) (MindsAll Of_source run) A by_source own h (made_current run path job.source) (okay Ends) (current_meets pledge path job.source b.names None_ ok own h g))
    current_so false own h g = meets_return (MayAsk pledge) A own h tt (okay Done_) tt

    opened_okay : (h : Hand) → AllMinded run path all os start → M start h (opened_refiled run path job o os) (okay Done_)
    unfolding opened_refiled
    opened_okay h g =
        meets_then (MayAsk pledge) A start h (said_refiled run path job o ds) (λ moved. current_if job.set_current run path job.source) Ends Done_
        (said_meets start h ((b.facts, (λ j unlisted. unmarked_of run path job.source start o f j unlisted)), all_open_of run path start all os g)) (λ later j u k. current_so job.set_current later j k)

    opened_meets : (h : Hand) → AllMinded run path all os start → M start h (opened_refiled run path job o os) Anyhow
    opened_meets h g = meets_more (MayAsk pledge) A start h (opened_refiled run path job o os) (okay Done_) Anyhow (λ later j r q. tt) (opened_okay h g)

  -- the destinations may be begun
  goes_there : (name : List ℕ) → Contains all name → (own : List Deed) (h : Hand) → Goes pledge own h (made_begun run (Folder path name) mail name) (okay (λ later j x. HasBegun pledge own path name later x))
  goes_there name c own h = destination_goes run few path job name c own h

  -- where all were begun the work is done
  gathered_meets : (own : List Deed) (h : Hand) (o : Opened) (g : Gathered) → AreMinded pledge path job.source o all told goes_there all own g.opened g.end → M own h (gathered_refiled run path job o g) Anyhow
  gathered_meets own h o g are = by g.end are
    where
      by : (r : Result Unit CommandFault) → AreMinded pledge path job.source o all told goes_there all own g.opened r → M own h (Return r >>= (λ u. opened_refiled run path job o g.opened)) Anyhow
      by (Ok u) k = meets_on (MayAsk pledge) A own h u (λ v. opened_refiled run path job o g.opened) Anyhow (opened_meets own o g.opened k.0 h k.1)
      by (Err e) k =
          meets_more (MayAsk pledge) A own h (Return (Err e) >>= (λ (v : Unit {0}). opened_refiled run path job o g.opened)) (okay (λ later j (v : Unit {0}). Unit {0})) Anyhow (λ later j r q. tt)
          (meets_stop (MayAsk pledge) A own h e (λ (v : Unit {0}). opened_refiled run path job o g.opened) (λ later j (v : Unit {0}). Unit {0}))

  -- all that follows the begin of the source
  after_source : (o : Opened) (own : List Deed) (h : Hand) → Sound pledge own h → HasMinded run path job.source own o → NoneUnlinkedIn path all own
      → M own h (bind (all_begun run path all []) (λ g. bind (gathered_refiled run path job o g) (all_ended (places_of o g)))) Anyhow
  after_source o own h sound f none =
      meets_bind (MayAsk pledge) A own h (all_begun run path all []) (λ g. bind (gathered_refiled run path job o g) (all_ended (places_of o g))) (λ later j g. AreMinded pledge path job.source o all told goes_there all later g.opened g.end) Anyhow
      (meets_weaker (MayAsk pledge) (MindsAll Of run) A by_all own h (all_begun run path all []) (λ later j g. AreMinded pledge path job.source o all told goes_there all later g.opened g.end)
      (gathered_meet pledge path job.source o all told goes_there own h (destinations_apart job) (λ c. away job.source c refl) sound none f))
      (λ first j g k.
      meets_bind (MayAsk pledge) A first j (gathered_refiled run path job o g) (all_ended (places_of o g)) Anyhow Anyhow (gathered_meets first j o g k)
      (λ second i r q. meets_weaker (MayAsk pledge) (MindsAll Of run) A by_all second i (all_ended (places_of o g) r) Anyhow (all_ended_meet Of pledge (places_of o g) second i r)))

  -- the source is begun
  abbrev Began : Outcome Opened
  Began later j o = Sound pledge later j × (HasMinded run path job.source later o × NoneUnlinkedIn path all later)

  minded_source : (own later : List Deed) (j : Hand) (r : Result Opened PlanFault) → okay (λ last i o. HasBegun pledge own path job.source last o) later j r × okay (λ last i o. HasSeenBegun path job.source last o × FreesOthers run path job.source o.listing last) later j r
      → okay (λ last i o. HasMinded run path job.source last o) later j r
  minded_source own later j (Ok o) q = record { begun = q.1.0; frees = q.1.1; old = q.0.base.0; base = q.0.base.1; marks = q.0.marks }
  minded_source own later j (Err e) q = tt

  source_goes : (own : List Deed) (h : Hand) → Goes pledge own h (begun run p mail job.source) (okay (λ later j o. HasBegun pledge own path job.source later o))
  source_goes own h = folder_marks.source_goes pledge few path job.source (Withdraws run path job) (job.set_current ≡ true) (lets_source run few path job) (withdraws_kept run few path job) (marks_source run few path job) own h

  source_meets : (own : List Deed) (h : Hand) → Sound pledge own h → NoneUnlinkedIn path (begun_names job) own → M own h (lifted (of_plan job.source) (begun run p mail job.source)) (okay Began)
  source_meets own h sound none =
      meets_lifted (MayAsk pledge) A own h (of_plan job.source) (begun run p mail job.source) Began
      (meets_okay_sound pledge A own h (begun run p mail job.source) (okay (λ later j o. HasBegun pledge own path job.source later o)) (λ later j o. HasMinded run path job.source later o × NoneUnlinkedIn path all later) sound (source_goes own h)
      (meets_okay_both (MayAsk pledge) A AnyAsk own h (begun run p mail job.source) (λ later j o. HasMinded run path job.source later o) (λ later j o. NoneUnlinkedIn path all later)
      (meets_more (MayAsk pledge) A own h (begun run p mail job.source) (λ later j r. okay (λ last i o. HasBegun pledge own path job.source last o) later j r × okay (λ last i o. HasSeenBegun path job.source last o × FreesOthers run path job.source o.listing last) later j r) (okay (λ later j o. HasMinded run path job.source later o)) (minded_source own)
      (meets_going pledge A own h (begun run p mail job.source) (okay (λ later j o. HasBegun pledge own path job.source later o)) (okay (λ later j o. HasSeenBegun path job.source later o × FreesOthers run path job.source o.listing later)) sound (source_goes own h)
      (meets_weaker (MayAsk pledge) (MindsAll Of_source run) A by_source own h (begun run p mail job.source) (okay (λ later j o. HasSeenBegun path job.source later o × FreesOthers run path job.source o.listing later))
      (begun_meets pledge path job.source own h (none job.source (first_there job.source all))))))
      (none_kept_begun pledge path job.source all (λ n c same. away n c (sym same)) own h (λ n c. none n (later_there job.source all n c)))))

  after_meets : (later : List Deed) (j : Hand) (r : Result Opened CommandFault) → okay Began later j r
      → M later j (after (λ o. bind (all_begun run path all []) (λ g. bind (gathered_refiled run path job o g) (all_ended (places_of o g)))) r) Anyhow
  unfolding Meets
  after_meets later j (Ok o) q = after_source o later j q.0 q.1.0 q.1.1
  after_meets later j (Err e) q = tt

  -- each step of `refile` minds all marks, where no message is held aside when it takes one
  pub refile_meets : (own : List Deed) (h : Hand) → Sound pledge own h → NoneUnlinkedIn path (begun_names job) own → M own h (refile run path job) Anyhow
  unfolding refile ◌>>=◌
  refile_meets own h sound none =
      meets_bind (MayAsk pledge) A own h (lifted (of_plan job.source) (begun run p mail job.source)) (after (λ o. bind (all_begun run path all []) (λ g. bind (gathered_refiled run path job o g) (all_ended (places_of o g))))) (okay Began) Anyhow
      (source_meets own h sound none) (λ later j r q. after_meets later j r q)
