-- `sortm` goes as it pledges.
use Rattle.std.proofs.Common.{◌≡◌, ◌<◌, ◌^◌, [], ℕ, true, List, Result, Ok, Err, refl, sym, ◌∙◌, ap, subst, length}
use Rattle.mh_base.specs.Entries.{entry_text, kind_of}
use Rattle.mh_base.specs.Numbers.{IsMsgNum}
use Rattle.mh_base.specs.declared.entry.Entry.TheVariants.{Number, Sequences}
use Rattle.mh_base.proofs.EntryKinds.{kind_of-entry_text}
use Rattle.mh_sequences.specs.Sequences.{Marked}
use Rattle.folder_files.specs.Careful.{HasLock}
use Rattle.folder_files.specs.Commands.{Sorting}
use Rattle.folder_files.specs.Deeds.{Deed}
use Rattle.folder_files.specs.declared.place.Place.{Place}
use Rattle.folder_files.specs.declared.place.Place.TheVariants.{Folder, Mail}
use Rattle.folder_files.specs.declared.step.Step.{Step}
use Rattle.file_plans.specs.Follows.{Follows, State}
use Rattle.file_plans.specs.Plan.{Hand, after, bind, lifted, ◌>>=◌}
use Rattle.file_plans.specs.Rules.{IfOkay, Keeps}
use Rattle.file_plans.specs.Runs.{Deed as Done}
use Rattle.file_plans.proofs.Acting.{acts}
use Rattle.step_plans.specs.CommandFaults.{command_cause}
use Rattle.step_plans.specs.Commits.{IsBase}
use Rattle.step_plans.specs.Pledges.{Pledge}
use Rattle.step_plans.specs.Promises.{Promises}
use Rattle.step_plans.specs.Settled.{AreSettled}
use Rattle.step_plans.specs.declared.command_fault.CommandFault.{CommandFault}
use Rattle.step_plans.proofs.Facts.{LeavesBase, LeavesLock, LeavesSettled, base_kept, lock_kept, settled_kept}
use Rattle.step_plans.proofs.Going.{Goes, Outcome, Sound, goes_lifted, goes_more, goes_then, okay, okay_more}
use Rattle.step_plans.proofs.Lasting.{KeptBy, keeping, lasting}
use Rattle.step_plans.proofs.Pledged.{Of}
use Rattle.step_plans.proofs.Promising.{keeps_pledge}
use Rattle.step_plans.proofs.Ruling.{rules_of}
use Rattle.step_plans.proofs.Stepping.{goes_end}
use Rattle.sequence_commits.proofs.SequencesPledged.{sequences_name}
use Rattle.message_places.specs.Order.{moves_of}
use Rattle.message_places.specs.Places.{AreDistinct, AreMsgNums, froms, is_in, slots}
use Rattle.message_places.specs.declared.moves.Move.{Move}
use Rattle.message_places.proofs.NumberLists.{in_good}
use Rattle.command_stages.specs.Current.{made_current}
use Rattle.command_stages.specs.Endings.{of_plan}
use Rattle.opening_plans.specs.FolderPledge.{told_within}
use Rattle.opening_plans.specs.Opening.{Opened, begun, opened_of}
use Rattle.opening_plans.specs.Reads.{HaveSeen}
use Rattle.opening_plans.proofs.EndedKept.{Still}
use Rattle.opening_plans.proofs.FolderPledged.{HasBegun, seen_kept}
use Rattle.opening_plans.proofs.WorkPledged.{current_goes, opened_keeps}
use Rattle.refile_plans.specs.RmmPledge.{every_message}
use Rattle.refile_plans.proofs.RefileMoved.{HasHeldNone}
use Rattle.refile_plans.proofs.RmmPledged.{listed_runs}
use Rattle.sortm_plans.specs.Reading.{order_read}
use Rattle.sortm_plans.specs.Sort.{chosen_from, chosen_sorted, opened_sorted, places_changed, sortm}
use Rattle.sortm_plans.specs.SortDone.{HasSortedChosen}
use Rattle.sortm_plans.specs.SortMoves.{HaveRead, moves_by}
use Rattle.sortm_plans.specs.SortPledge.{AreMoves, MakesMarks, SortsSo, sortm_pledge}
use Rattle.sortm_plans.specs.declared.job.SortJob.{SortJob}
use Rattle.sortm_plans.proofs.HeldNone.{Spares, none_kept, reads_spare}
use Rattle.sortm_plans.proofs.Listed.{sort_distinct, sort_good}
use Rattle.sortm_plans.proofs.OrderMoves.{moving_good, moving_taken, read_many, taken_chosen, takes_distinct, takes_good}
use Rattle.sortm_plans.proofs.ReadGoes.{Ordered, Orders, asks_order, order_goes, read_kept}
use Rattle.message_moves.proofs.MovePledged.{LetsTake}
use Rattle.sortm_plans.specs.MovePledge.{AreToldWithout, MovesMarks}
use Rattle.sortm_plans.proofs.MarkedPledged as stage
use Rattle.sortm_plans.proofs.SortLets.{lets, makes_kept, sorted_kept, takes_one}

module _ (run : ℕ) (few : run < 2 ^ 128) (path : List ℕ) (job : SortJob) where
  abbrev w : Pledge
  w = sortm_pledge run path job

  abbrev p : Place
  p = Folder path job.folder

  abbrev mail : Place
  mail = Mail path

  abbrev no_piece : List Deed → List ℕ → Type 0
  no_piece own piece = ⊥

  number_named : (n : ℕ) → IsMsgNum n → entry_text (Number n) ≡ sequences_name → ⊥
  number_named n ok e = absurd (let same : Number n ≡ Sequences = sym (kind_of-entry_text (Number n) ok) ∙ (ap kind_of e ∙ kind_of-entry_text Sequences tt) in cc (same))

  -- the work on a folder that was begun
  module _ (begin own : List Deed) (o : Opened) (b : HasBegun w begin path job.folder own o) (none : HasHeldNone run p own) where
    abbrev m : Marked
    m = told_within o.listing b.text b.context job.folder

    -- what lasts while messages are read
    record Going (later : List Deed) : Type 0 where
      settled : AreSettled own → AreSettled later
      lock : HasLock p later
      seen : HaveSeen run p mail o.listing b.text b.context later
      base : IsBase run p sequences_name b.base.0 later
      unused : HasHeldNone run p later

    abbrev Quiet : Step → Type 0
    Quiet s = LeavesSettled s × LeavesLock p s × LeavesBase p sequences_name s × Spares run few path job.folder s

    going_on : KeptBy Quiet Going
    going_on later s a quiet f = record {
      settled = λ x. settled_kept later s a quiet.0 (f.settled x);
      lock = lock_kept p later s a quiet.1 f.lock;
      seen = seen_kept run p mail o.listing b.text b.context later s a tt f.seen;
      base = base_kept run p sequences_name b.base.0 later s a quiet.2 f.base;
      unused = none_kept run few path job.folder later s a quiet.3 f.unused;
    }

    start : Going own
    start = record { settled = λ x. x; lock = b.held.lock; seen = b.seen; base = b.base.1; unused = none }

    -- and at the end
    record Sorted (later : List Deed) : Type 0 where
      settled : AreSettled own → AreSettled later
      seen : HaveSeen run p mail o.listing b.text b.context later
      done : HasSortedChosen run path job later

    abbrev opened : Opened
    opened = opened_of p job.folder o.listing m o.ends

    abbrev Sorts : Outcome (List ℕ)
    Sorts later j ends = Sorted later

    module _ (numbers : List ℕ) (is : chosen_from job o.listing m ≡ Ok numbers) where
      good : AreMsgNums numbers
      good = sort_good job o.listing m numbers is (listed_runs run p mail o.listing b.text b.context own b.seen)

      distinct : AreDistinct numbers
      distinct = sort_distinct job o.listing m numbers is

      abbrev Read : Outcome (List ℕ)
      Read later j order = Going later × Ordered w p job.key numbers later order

      reads_go : (h : Hand) → Goes w own h (order_read p job.key numbers) (okay Read)
      reads_go h =
          keeping w Quiet Going going_on own h (order_read p job.key numbers) (Orders w p job.key numbers)
          (asks_order Quiet p job.key numbers (λ n e. let ok : IsMsgNum n = in_good numbers good n e in (tt, tt, (λ same named. number_named n ok named), reads_spare run few path job.folder n ok))) start (order_goes w p job.key numbers own h)

      -- by what was read, these are the moves
      module _ (texts : List (List ℕ)) (first : List Deed) (read : HaveRead p numbers texts first) where
        abbrev ms : List Move
        ms = moves_by job.key texts numbers

        many : length texts ≡ length numbers
        many = read_many p numbers texts first read

        abbrev takes : List ℕ
        takes = slots ms

        are_moves : (later : List Deed) → HaveRead p numbers texts later → AreMoves run path job o.listing m ms later
        are_moves later f = record { numbers = numbers; chosen = is; texts = texts; read = f; moves = refl }

        good_takes : AreMsgNums takes
        good_takes = takes_good job.key texts numbers many good distinct

        among : (k : ℕ) → is_in k (froms ms) ≡ true → is_in k takes ≡ true
        among k e = sym (moving_taken job.key texts numbers many good distinct k) ∙ e

        takes_so : (later : List Deed) (n : ℕ) → is_in n takes ≡ true → HaveSeen run p mail o.listing b.text b.context later → HaveRead p numbers texts later → AreToldWithout run path job.folder m takes later → LetsTake w p n later
        takes_so later n e seen f freed =
            takes_one run few path job n later (in_good takes good_takes n e)
            (record { listing = o.listing; text = b.text; context = b.context; seen = seen; numbers = numbers; chosen = is; one = taken_chosen job.key texts numbers many good distinct n e })
            (record { listing = o.listing; text = b.text; context = b.context; seen = seen; numbers = takes; taken = (ms, are_moves later f, refl); one = e; freed = freed })

        makes_so : (later : List Deed) (new : Marked) → HaveRead p numbers texts later → MovesMarks run p takes ms later m new → MakesMarks run path job later o.listing m new
        makes_so later new f made = (ms, are_moves later f, made)

        abbrev Gone : List Deed → List ℕ → List Deed → Type 0
        Gone before ends later =
            stage.Gone run few path job.folder (MakesMarks run path job) no_piece (SortsSo run path job) (lets run few path job) (makes_kept run few path job) begin own o b (HaveRead p numbers texts) (read_kept p numbers texts) takes ms good_takes
            (takes_distinct job.key texts numbers many good distinct) (moving_good job.key texts numbers many good distinct) good_takes among takes_so makes_so before ends later

        sorted_so : (before : List Deed) → Going before → (ends : List ℕ) (later : List Deed) → Gone before ends later → Sorted later
        sorted_so before g ends later f = record {
          settled = λ x. f.settled (g.settled x);
          seen = f.seen;
          done = record {
            listing = o.listing;
            text = b.text;
            context = b.context;
            seen = f.seen;
            numbers = numbers;
            chosen = is;
            texts = texts;
            read = f.known;
            ends = ends;
            moved = f.moved;
            marks = f.marks;
          };
        }

        -- they change places
        moves_go : (before : List Deed) (h : Hand) → Going before → HaveRead p numbers texts before → Goes w before h (places_changed run mail opened ms) (okay Sorts)
        moves_go before h g f =
            goes_more w before h (places_changed run mail opened ms) (okay (λ later j ends. Gone before ends later)) (okay Sorts)
            (okay_more (λ later j ends. Gone before ends later) Sorts (λ later j ends q. sorted_so before g ends later q))
            (stage.moved_goes run few path job.folder (MakesMarks run path job) no_piece (SortsSo run path job) (lets run few path job) (makes_kept run few path job) begin own o b (HaveRead p numbers texts) (read_kept p numbers texts) takes ms good_takes
            (takes_distinct job.key texts numbers many good distinct) (moving_good job.key texts numbers many good distinct) good_takes among takes_so makes_so ms refl before h b.base.0 g.unused g.lock g.base g.seen f)

      -- the messages that were chosen are read, and change places
      numbers_go : (h : Hand) → Goes w own h (order_read p job.key numbers >>= (λ order. lifted (of_plan job.folder) (places_changed run mail (opened_of p job.folder o.listing m o.ends) (moves_of order numbers)))) (okay Sorts)
      numbers_go h =
          goes_then w own h (order_read p job.key numbers) (λ order. lifted (of_plan job.folder) (places_changed run mail (opened_of p job.folder o.listing m o.ends) (moves_of order numbers))) Read Sorts (reads_go h)
          (λ later j order f.
          subst (λ l. Goes w later j (lifted (of_plan job.folder) (places_changed run mail (opened_of p job.folder o.listing m o.ends) (moves_of l numbers))) (okay Sorts)) (sym f.1.are)
          (goes_lifted w later j (of_plan job.folder) (places_changed run mail (opened_of p job.folder o.listing m o.ends) (moves_by job.key f.1.texts numbers)) Sorts
          (moves_go f.1.texts later f.1.read later j f.0 f.1.read)))

    by_value : (value : Result (List ℕ) CommandFault) → chosen_from job o.listing m ≡ value → (h : Hand)
        → Goes w own h (after (λ numbers. order_read p job.key numbers >>= (λ order. lifted (of_plan job.folder) (places_changed run mail (opened_of p job.folder o.listing m o.ends) (moves_of order numbers)))) value) (okay Sorts)
    by_value (Ok numbers) is h = numbers_go numbers is h
    by_value (Err e) is h = goes_end w own h e Sorts

    same_opened : o ≡ opened_of p job.folder o.listing m o.ends
    same_opened = λ i. opened_of (b.place i) (b.name i) o.listing (b.sequences i) o.ends

    chosen_goes : (h : Hand) → Goes w own h (chosen_sorted run path job (opened_of p job.folder o.listing m o.ends)) (okay Sorts)
    unfolding Goes chosen_sorted bind ◌>>=◌
    chosen_goes h = by_value (chosen_from job o.listing m) refl h

    -- what was settled of commits is so still, and the messages stand in order
    abbrev pub Worked : List Deed → Type 0
    Worked later = (AreSettled own → AreSettled later) × HasSortedChosen run path job later

    pub opened_goes : (h : Hand) → Goes w own h (opened_sorted run path job o) (okay (Of Worked))
    unfolding opened_sorted
    opened_goes h =
        goes_then w own h (chosen_sorted run path job o) (λ moved. made_current run path job.folder) Sorts (Of Worked) (subst (λ x. Goes w own h (chosen_sorted run path job x) (okay Sorts)) (sym same_opened) (chosen_goes h))
        (λ later j u f.
        goes_more w later j (made_current run path job.folder) (okay (λ end i v. HasSortedChosen run path job end × (AreSettled later → AreSettled end))) (okay (Of Worked))
        (okay_more (λ end i v. HasSortedChosen run path job end × (AreSettled later → AreSettled end)) (Of Worked) (λ end i v g. ((λ s. g.1 (f.settled s)), g.0)))
        (lasting w (HasSortedChosen run path job) (sorted_kept run few path job) later j (made_current run path job.folder) (Of (λ end. AreSettled later → AreSettled end)) f.done
        (current_goes run few path job.folder (MakesMarks run path job) (Sorting path job.folder every_message) no_piece (SortsSo run path job) (lets run few path job) (makes_kept run few path job) later j o.listing b.text b.context f.seen)))

  -- the folder is begun, and the run holds nothing aside itself
  abbrev pub Began : List Deed → Outcome Opened
  Began own later j o = HasBegun w own path job.folder later o × HasHeldNone run p later

  pub begun_sparing : (own : List Deed) (h : Hand) → HasHeldNone run p own → Goes w own h (begun run p mail job.folder) (okay (Began own))
  begun_sparing = stage.begun_sparing run few path job.folder (MakesMarks run path job) no_piece (SortsSo run path job) (lets run few path job) (makes_kept run few path job)

  -- `sortm` keeps the rules of its pledge, where its run has used none of its held names before
  pub sortm_keeps : (past : List Done) (h : Hand) → HasHeldNone run p (acts past) → Sound w (acts past) h → Keeps (rules_of w) past h (sortm run path job) (IfOkay (Still (acts past)))
  unfolding sortm
  sortm_keeps past h none sound =
      opened_keeps run few path job.folder (MakesMarks run path job) (Sorting path job.folder every_message) no_piece (SortsSo run path job) (lets run few path job) (makes_kept run few path job) (HasHeldNone run p) (begun run p mail job.folder)
      (opened_sorted run path job) past
      (λ later o b i s.
      goes_more w later i (opened_sorted run path job o) (okay (Of (Worked (acts past) later o b.0 b.1))) (okay (Of (λ end. AreSettled later → AreSettled end)))
      (okay_more (Of (Worked (acts past) later o b.0 b.1)) (Of (λ end. AreSettled later → AreSettled end)) (λ end k v g. g.0)) (opened_goes (acts past) later o b.0 b.1 i)) h sound (begun_sparing (acts past) h none)

  pub sortm_promises : (x y : State) (result : Result Unit CommandFault) → Follows run command_cause (sortm run path job) x y result → Promises w x y
  sortm_promises x y result f = keeps_pledge w command_cause (sortm run path job) x y result (IfOkay (Still [])) (sortm_keeps [] x.hand (λ n ok. tt) (record { numbered = tt; unfailed = λ z. elim z [ ] })) f
