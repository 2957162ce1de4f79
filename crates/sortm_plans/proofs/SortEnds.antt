-- How `sortm` ends, and what shows it.
use Rattle.std.proofs.Common.{◌≡◌, inl, inr, ◌<◌, ◌^◌, ◌++◌, ◌∷◌, [], true, ℕ, List, Result, Ok, Err, length, map, refl, sym, ◌∙◌, ap, subst, append-nil, append_assoc}
use Rattle.mh_base.specs.Entries.{entry_text, kind_of}
use Rattle.mh_base.specs.Numbers.{IsMsgNum}
use Rattle.mh_base.specs.declared.entry.Entry.TheVariants.{Number, Sequences}
use Rattle.mh_base.proofs.EntryKinds.{kind_of-entry_text}
use Rattle.mh_sequences.specs.Runs.{numbers_of}
use Rattle.mh_sequences.specs.Sequences.{Marked}
use Rattle.mh_sequences.specs.declared.run.Run.{Run}
use Rattle.msg_ranges.specs.Selection.{marks_of}
use Rattle.msg_ranges.proofs.Rising.{first_listed, other_listed}
use Rattle.folder_files.specs.Careful.{HasLock}
use Rattle.folder_files.specs.Commands.{Sorting}
use Rattle.folder_files.specs.Deeds.{Deed, WasDone, did, on}
use Rattle.folder_files.specs.declared.place.Place.{Place}
use Rattle.folder_files.specs.declared.place.Place.TheVariants.{Folder, Mail}
use Rattle.folder_files.specs.declared.refusal.Refusal.{Refusal}
use Rattle.folder_files.specs.declared.refusal.Refusal.TheVariants as refusal
use Rattle.folder_files.specs.declared.refusal.Which.{Which}
use Rattle.folder_files.specs.declared.step.Answer.TheVariants as answer
use Rattle.folder_files.specs.declared.step.Step.{Step}
use Rattle.folder_files.specs.declared.step.Step.TheVariants as step
use Rattle.file_plans.specs.Plan.{Hand, Return, after, bind, lifted, ◌>>=◌}
use Rattle.file_plans.specs.Rules.{Keeps}
use Rattle.file_plans.specs.Runs as runs
use Rattle.file_plans.proofs.Acting.{acts}
use Rattle.file_plans.proofs.Framing.{AnyStep}
use Rattle.step_plans.specs.CommandFaults.{of_stop}
use Rattle.step_plans.specs.Commits.{IsBase}
use Rattle.step_plans.specs.ContextCommit.{LIMIT_BYTES}
use Rattle.step_plans.specs.declared.command_fault.CommandFault.{CommandFault}
use Rattle.step_plans.specs.declared.command_fault.CommandFault.TheVariants as command
use Rattle.step_plans.specs.declared.fault.PlanFault.{PlanFault}
use Rattle.step_plans.proofs.Coming.{Comes, NoneFailed, anything, comes_lifted, comes_more, comes_read, comes_then, comes_to}
use Rattle.step_plans.proofs.Facts.{base_kept, lock_kept}
use Rattle.step_plans.proofs.Going.{Outcome}
use Rattle.step_plans.proofs.Lasting.{KeptBy}
use Rattle.sequence_commits.proofs.SequencesPledged.{sequences_name}
use Rattle.message_places.specs.Order.{moves_of}
use Rattle.message_places.specs.Places.{AreDistinct, AreMsgNums, is_in, slots}
use Rattle.message_places.specs.declared.moves.Move.{Move}
use Rattle.message_places.proofs.NumberLists.{in_good}
use Rattle.command_stages.specs.Chosen.{folder_with}
use Rattle.command_stages.specs.Current.{made_current}
use Rattle.command_stages.specs.Endings.{of_plan}
use Rattle.command_stages.specs.Texts.{too_large}
use Rattle.mh_looks.proofs.Ending.{by_choice}
use Rattle.opening_plans.specs.Endings.{Answering, HasMetIn, IsRefusedBy, PutsNone, ShowsEnd, met_gone}
use Rattle.opening_plans.specs.FolderPledge.{told_within}
use Rattle.opening_plans.specs.Opening.{Opened, begun, opened_of}
use Rattle.opening_plans.specs.Reads.{HaveSeen}
use Rattle.opening_plans.proofs.BeginState.{HasState, TakesNone, begin_state, locked_there, refused_there}
use Rattle.opening_plans.proofs.CleanRuns.{Clean, clean_more}
use Rattle.opening_plans.proofs.FolderPledged.{seen_kept}
use Rattle.opening_plans.proofs.NamesKept.{backups_kept, met_in_kept, putting}
use Rattle.opening_plans.proofs.SequencesEnd.{Left}
use Rattle.opening_plans.proofs.WorkEnds.{EndsBeside, EndsWith, current_comes, work_ends}
use Rattle.refile_plans.specs.RmmPledge.{every_message}
use Rattle.refile_plans.proofs.RmmPledged.{listed_runs}
use Rattle.sortm_plans.specs.Keys.{date_key, text_key}
use Rattle.sortm_plans.specs.Ordered.{order_by_dates, order_by_texts}
use Rattle.sortm_plans.specs.Reading.{date_order_read, keys_read, message_by, message_read, order_read, text_order_read}
use Rattle.sortm_plans.specs.Sort.{chosen_from, chosen_sorted, opened_sorted, places_changed, sortm}
use Rattle.sortm_plans.specs.MovesAnswers.{long_marks, none_left, none_met}
use Rattle.sortm_plans.specs.SortAnswers.{ShowsSort, long_message, none_moved, sort_answers}
use Rattle.sortm_plans.specs.SortMoves.{HaveRead, moves_by, order_by, read_next, read_none}
use Rattle.sortm_plans.specs.SortPledge.{AreMoves, MakesMarks, SortsSo}
use Rattle.sortm_plans.specs.declared.job.SortJob.{SortJob}
use Rattle.sortm_plans.specs.declared.job.SortKey.{SortKey}
use Rattle.sortm_plans.specs.declared.job.SortKey.TheVariants as key
use Rattle.sortm_plans.proofs.MarkedEnds as stage
use Rattle.sortm_plans.proofs.ReadGoes.{read_kept}
use Rattle.sortm_plans.proofs.CommitsShown as commits
use Rattle.sortm_plans.proofs.CommitsShown.{Commits}
use Rattle.sortm_plans.proofs.Listed.{sort_distinct, sort_good, sort_listed}
use Rattle.sortm_plans.proofs.OrderMoves.{moving_distinct, moving_good, moving_taken, read_many, taken_chosen, takes_distinct, takes_good}
use Rattle.sortm_plans.proofs.SortLets.{lets, makes_kept}
use Rattle.sortm_plans.proofs.Zipped.{map_more}

module _ (run : ℕ) (few : run < 2 ^ 128) (path : List ℕ) (job : SortJob) where
  abbrev p : Place
  p = Folder path job.folder

  abbrev mail : Place
  mail = Mail path

  abbrev no_piece : List Deed → List ℕ → Type 0
  no_piece own piece = ⊥

  abbrev Answers : Answering
  Answers = sort_answers job

  abbrev Shows : CommandFault → List Deed → Type 0
  Shows e own = ShowsSort run path job e own

  abbrev So : {A : Type 0} → Outcome A → Outcome (Result A CommandFault)
  So P later j r = EndsWith Shows P later j r

  -- what it makes after its deeds, and what shows its faults
  abbrev shown : Commits
  shown = record {
    run = run;
    few = few;
    path = path;
    folder = job.folder;
    answers = Answers;
    shows = λ e own. Shows e own;
    makes = MakesMarks run path job;
    makes_kept = makes_kept run few path job;
    shows_end = λ e own f. inl f;
    shows_long = λ l listing text context new own seen made long. inr (none_moved (long_marks (record { listing = listing; text = text; context = context; seen = seen; new = new; made = made; long = long })));
    shows_left = λ listing text context own seen last. inr (none_moved (none_left seen last));
    shows_met = λ own met. inr (none_moved (none_met met));
  }

  -- how a plan on the folder ends
  abbrev Plainly : {A : Type 0} → Outcome A → Outcome (Result A PlanFault)
  Plainly P later j r = commits.Plainly shown P later j r

  abbrev State : List Deed → Hand → Opened → Type 0
  State own h o = HasState run few path job.folder Answers (Sorting path job.folder every_message) no_piece (SortsSo run path job) (lets run few path job) own h o

  abbrev Nothing : List Deed → Type 0
  Nothing own = Unit {0}

  abbrev Leaves : {A : Type 0} → Outcome A
  Leaves later j x = Left run few path job.folder Answers later j

  number_named : (n : ℕ) → IsMsgNum n → entry_text (Number n) ≡ sequences_name → ⊥
  number_named n ok e = absurd (let same : Number n ≡ Sequences = sym (kind_of-entry_text (Number n) ok) ∙ (ap kind_of e ∙ kind_of-entry_text Sequences tt) in cc (same))

  -- what words refuse, once the folder was listed and read
  refused_shows : (own : List Deed) (listing : List Run) (m : Marked) (e : CommandFault) → ((r : Refusal) → chosen_from job listing m ≡ Err (command.Refused r) → IsRefusedBy run path job.folder Answers r own)
      → chosen_from job listing m ≡ Err e → Shows e own
  refused_shows own listing m e b is =
      by_choice (λ z. chosen_from job listing m ≡ Err z → Shows z own) (folder_with job.negation (numbers_of listing) (marks_of m)) job.specs e is (λ word f. inl (b (refusal.BadSpec word) f)) (λ word f. inl (b (refusal.Absent word) f))
      (λ word f. inl (b (refusal.EmptyRange word) f)) (λ word f. inl (b (refusal.EmptySequence word) f)) is

  -- the work on a folder that was begun
  module _ (own : List Deed) (h : Hand) (o : Opened) (s : State own h o) where
    abbrev text : List ℕ
    text = s.begun_there.text

    abbrev context : List ℕ
    context = s.begun_there.context

    abbrev marked : Marked
    marked = told_within o.listing text context job.folder

    abbrev opened : Opened
    opened = opened_of p job.folder o.listing marked o.ends

    module _ (numbers : List ℕ) (is : chosen_from job o.listing marked ≡ Ok numbers) where
      good : AreMsgNums numbers
      good = sort_good job o.listing marked numbers is (listed_runs run p mail o.listing text context own s.begun_there.seen)

      distinct : AreDistinct numbers
      distinct = sort_distinct job o.listing marked numbers is

      -- while messages are read: the run has met each that is chosen
      record Reading (later : List Deed) (j : Hand) : Type 0 where
        left : Left run few path job.folder Answers later j
        seen : HaveSeen run p mail o.listing text context later
        lock : HasLock p later
        was : WasDone (step.Lock p) later
        base : IsBase run p sequences_name s.begun_there.base.0 later
        met : (k : ℕ) → is_in k numbers ≡ true → HasMetIn p (entry_text (Number k)) later

      start : Reading own h
      start = record {
        left = s.left;
        seen = s.begun_there.seen;
        lock = s.begun_there.held.lock;
        was = locked_there run few path job.folder Answers (Sorting path job.folder every_message) no_piece (SortsSo run path job) (lets run few path job) own h o s;
        base = s.begun_there.base.1;
        met = λ k e. s.numbers k (in_good numbers good k e) (sort_listed job o.listing marked numbers is k e);
      }

      abbrev reads : ℕ → Step
      reads n = step.Read p (entry_text (Number n)) LIMIT_BYTES

      read_one : (n : ℕ) → IsMsgNum n → (bytes : List ℕ) (later : List Deed) (j : Hand) → Reading later j → Reading (did (reads n) (answer.Content bytes) ∷ later) j
      read_one n ok bytes later j f = record {
        left = record {
          clean = clean_more run later j (reads n) (answer.Content bytes) (λ e. cc (e)) tt f.left.clean;
          safe = backups_kept p (reads n) (answer.Content bytes) later (λ y w. putting p y (reads n) (answer.Content bytes) w) f.left.safe;
        };
        seen = seen_kept run p mail o.listing text context later (reads n) (answer.Content bytes) tt f.seen;
        lock = lock_kept p later (reads n) (answer.Content bytes) tt f.lock;
        was = on f.was;
        base = base_kept run p sequences_name s.begun_there.base.0 later (reads n) (answer.Content bytes) (λ same named. number_named n ok named) f.base;
        met = λ k e. met_in_kept p (entry_text (Number k)) (reads n) (answer.Content bytes) later (λ t. t) (f.met k e);
      }

      -- one message, of which those before it were read
      abbrev Content : ℕ → List Deed → Hand → Outcome (List ℕ)
      Content n later j last_ i bytes = (last_ ≡ did (reads n) (answer.Content bytes) ∷ later) × (i ≡ j)

      module _ (n : ℕ) (before rest : List ℕ) (whole : numbers ≡ before ++ n ∷ rest) (one : is_in n numbers ≡ true) (texts : List (List ℕ)) where
        message_comes : (later : List Deed) (j : Hand) → HaveRead p before texts later → Reading later j → Comes later j (message_read p n) (So (Content n later j))
        unfolding message_read
        message_comes later j read f =
            comes_read later j of_stop (So (Content n later j)) p (entry_text (Number n)) LIMIT_BYTES (message_by p n) (λ bytes. comes_to _ j (Ok bytes) (So (Content n later j)) (refl, refl))
            (λ l. comes_to _ j (Err (too_large l)) (So (Content n later j))
            (inr (long_message (record { listing = o.listing; text = text; context = context; seen = f.seen; before = before; rest = rest; chosen = is ∙ ap (λ x. Ok x) whole; texts = texts; read = read }))))
            (comes_to _ j (Err (command.Meddled p (entry_text (Number n)))) (So (Content n later j)) (inl (met_gone (inl (inl (LIMIT_BYTES, refl))) (f.met n one))))

      record Keys {K : Type 0} (key_of : List ℕ → K) (later : List Deed) (keys : List K) : Type 0 where
        texts : List (List ℕ)
        read : HaveRead p numbers texts later
        are : keys ≡ map key_of texts

      abbrev Read : {K : Type 0} (key_of : List ℕ → K) → Outcome (List K)
      Read key_of later j keys = Reading later j × Keys key_of later keys

      in_behind : (before : List ℕ) (n : ℕ) (rest : List ℕ) → is_in n (before ++ n ∷ rest) ≡ true
      in_behind [] n rest = first_listed n rest
      in_behind (m ∷ before) n rest = other_listed m n (before ++ n ∷ rest) (in_behind before n rest)

      keys_come : {K : Type 0} (key_of : List ℕ → K) (ns before : List ℕ) → numbers ≡ before ++ ns → (texts : List (List ℕ)) (keys : List K) → keys ≡ map key_of texts → (later : List Deed) (j : Hand) → HaveRead p before texts later → Reading later j
          → Comes later j (keys_read key_of p keys ns) (So (Read key_of))
      unfolding keys_read
      keys_come key_of [] before whole texts keys are later j read f =
          comes_to later j (Ok keys) (So (Read key_of)) (f, record { texts = texts; read = subst (λ l. HaveRead p l texts later) (sym (append-nil before) ∙ sym whole) read; are = are })
      keys_come key_of (n ∷ ns) before whole texts keys are later j read f =
          comes_then later j (message_read p n) (λ bytes. keys_read key_of p (keys ++ key_of bytes ∷ []) ns) (So (Content n later j)) (So (Read key_of)) (message_comes n before ns whole one texts later j read f)
          (λ last_ i bytes g.
          subst (λ l. Comes l i (keys_read key_of p (keys ++ key_of bytes ∷ []) ns) (So (Read key_of))) (sym g.0)
          (subst (λ k. Comes (did (reads n) (answer.Content bytes) ∷ later) k (keys_read key_of p (keys ++ key_of bytes ∷ []) ns) (So (Read key_of))) (sym g.1)
          (keys_come key_of ns (before ++ n ∷ []) (whole ∙ sym (append_assoc before (n ∷ []) ns)) (texts ++ bytes ∷ []) (keys ++ key_of bytes ∷ []) (ap (λ l. l ++ key_of bytes ∷ []) are ∙ sym (map_more key_of texts bytes))
          (did (reads n) (answer.Content bytes) ∷ later) j (read_next n (LIMIT_BYTES, refl) read) (read_one n (in_good numbers good n one) bytes later j f))))
          (λ last_ i e g. g)
        where
          one : is_in n numbers ≡ true
          one = subst (λ l. is_in n l ≡ true) (sym whole) (in_behind before n ns)

      -- the order by them
      record OrderSo (by : SortKey) (later : List Deed) (order : List ℕ) : Type 0 where
        texts : List (List ℕ)
        read : HaveRead p numbers texts later
        are : order ≡ order_by by texts numbers

      abbrev Orders : SortKey → Outcome (List ℕ)
      Orders by later j order = Reading later j × OrderSo by later order

      order_comes : (by : SortKey) → Comes own h (order_read p by numbers) (So (Orders by))
      unfolding date_order_read text_order_read
      order_comes (key.Date field) =
          comes_then own h (keys_read (date_key field) p [] numbers) (λ dates. Return (Ok (order_by_dates dates numbers))) (So (Read (date_key field))) (So (Orders (key.Date field))) (keys_come (date_key field) numbers [] refl [] [] refl own h read_none start)
          (λ later j dates f. comes_to later j (Ok (order_by_dates dates numbers)) (So (Orders (key.Date field))) (f.0, record { texts = f.1.texts; read = f.1.read; are = ap (λ l. order_by_dates l numbers) f.1.are })) (λ later j e f. f)
      order_comes (key.Text field) =
          comes_then own h (keys_read (text_key field) p [] numbers) (λ texts. Return (Ok (order_by_texts texts numbers))) (So (Read (text_key field))) (So (Orders (key.Text field))) (keys_come (text_key field) numbers [] refl [] [] refl own h read_none start)
          (λ later j texts f. comes_to later j (Ok (order_by_texts texts numbers)) (So (Orders (key.Text field))) (f.0, record { texts = f.1.texts; read = f.1.read; are = ap (λ l. order_by_texts l numbers) f.1.are })) (λ later j e f. f)

      -- by what was read, these move
      module _ (texts : List (List ℕ)) (at : List Deed) (read : HaveRead p numbers texts at) where
        abbrev ms : List Move
        ms = moves_by job.key texts numbers

        many : length texts ≡ length numbers
        many = read_many p numbers texts at read

        are_moves : (later : List Deed) → HaveRead p numbers texts later → AreMoves run path job o.listing marked ms later
        are_moves later f = record { numbers = numbers; chosen = is; texts = texts; read = f; moves = refl }

        good_takes : AreMsgNums (slots ms)
        good_takes = takes_good job.key texts numbers many good distinct

        -- where none moves nothing is done
        moves_come : (later : List Deed) (j : Hand) → HaveRead p numbers texts later → Reading later j → Comes later j (places_changed run mail opened ms) (Plainly Leaves)
        moves_come later j f g =
            stage.moved_comes shown o.listing (listed_runs run p mail o.listing text context own s.begun_there.seen) text context o.ends (HaveRead p numbers texts) (read_kept p numbers texts) (slots ms) good_takes (takes_distinct job.key texts numbers many good distinct) ms
            (moving_good job.key texts numbers many good distinct) (moving_distinct job.key texts numbers many good distinct) good_takes (λ k e. sym (moving_taken job.key texts numbers many good distinct k) ∙ e) (λ last_ new q made. (ms, are_moves last_ q, made)) later j
            s.begun_there.base.0 f g.seen g.lock g.was g.base (λ k e. g.met k (taken_chosen job.key texts numbers many good distinct k e)) g.left

      numbers_come : Comes own h (order_read p job.key numbers >>= (λ order. lifted (of_plan job.folder) (places_changed run mail opened (moves_of order numbers)))) (So Leaves)
      numbers_come =
          comes_then own h (order_read p job.key numbers) (λ order. lifted (of_plan job.folder) (places_changed run mail opened (moves_of order numbers))) (So (Orders job.key)) (So Leaves) (order_comes job.key)
          (λ later j order f.
          subst (λ z. Comes later j (lifted (of_plan job.folder) (places_changed run mail opened (moves_of z numbers))) (So Leaves)) (sym f.1.are)
          (comes_lifted later j (of_plan job.folder) (places_changed run mail opened (moves_by job.key f.1.texts numbers)) (Plainly Leaves) (So Leaves) (moves_come f.1.texts later f.1.read later j f.1.read f.0) (λ last_ i u g. g) (λ last_ i e g. g)))
          (λ later j e f. f)

    by_value : (value : Result (List ℕ) CommandFault) → chosen_from job o.listing marked ≡ value → Comes own h (after (λ numbers. order_read p job.key numbers >>= (λ order. lifted (of_plan job.folder) (places_changed run mail opened (moves_of order numbers)))) value) (So Leaves)
    by_value (Ok numbers) is = numbers_come numbers is
    by_value (Err e) is =
        comes_to own h (Err e) (So Leaves)
        (refused_shows own o.listing marked e
        (λ r f. refused_there run few path job.folder Answers (Sorting path job.folder every_message) no_piece (SortsSo run path job) (lets run few path job) own h o r s (ap (λ m. chosen_from job o.listing m) s.begun_there.sequences ∙ f)) is)

    same_opened : o ≡ opened
    same_opened = λ i. opened_of (s.begun_there.place i) (s.begun_there.name i) o.listing (s.begun_there.sequences i) o.ends

    chosen_comes : Comes own h (chosen_sorted run path job opened) (So Leaves)
    unfolding Comes chosen_sorted bind ◌>>=◌
    chosen_comes = by_value (chosen_from job o.listing marked) refl

    as_current : (later : List Deed) (j : Hand) (r : Result Unit CommandFault) → EndsWith (ShowsEnd run path job.folder Answers) Leaves later j r → So (λ end i u. Nothing end) later j r
    as_current later j (Ok u) f = tt
    as_current later j (Err e) f = inl f

    opened_comes : Comes own h (opened_sorted run path job o) (So (λ later j u. Nothing later))
    unfolding opened_sorted
    opened_comes =
        comes_then own h (chosen_sorted run path job o) (λ moved. made_current run path job.folder) (So Leaves) (So (λ later j u. Nothing later)) (subst (λ z. Comes own h (chosen_sorted run path job z) (So Leaves)) (sym same_opened) chosen_comes)
        (λ later j u left. comes_more later j (made_current run path job.folder) _ (So (λ end i v. Nothing end)) as_current (current_comes run few path job.folder Answers later j left))
        (λ later j e f. f)

  never : (which : Which) (own : List Deed) → Shows (command.Faulted which) own → ⊥
  never which own (inl f) = f
  never which own (inr (none_moved f)) = elim f [ ]

  begins_so : (later : List Deed) (j : Hand) (r : Result Opened CommandFault) → EndsWith (ShowsEnd run path job.folder Answers) (λ end i o. State end i o) later j r → So (λ end i o. State end i o) later j r
  begins_so later j (Ok o) f = f
  begins_so later j (Err e) f = inl f

  -- `sortm`, after deeds of which none failed, none put a name into the mail directory and none took a number away
  pub sortm_ends : (F : List Deed → Type 0) → KeptBy AnyStep F → (past : List runs.Deed) (h : Hand) → NoneFailed (acts past) → Clean run (acts past) h → PutsNone mail (acts past)
      → TakesNone run few path job.folder Answers (Sorting path job.folder every_message) no_piece (SortsSo run path job) (lets run few path job) (acts past) → F (acts past)
      → Keeps anything past h (sortm run path job) (EndsBeside Shows F Nothing)
  unfolding sortm
  sortm_ends F keeps past h none clean free takes f =
      work_ends run few path job.folder Answers Shows never F Nothing keeps (λ own s a any g. g) (λ later j o. State later j o) (lifted (of_plan job.folder) (begun run p mail job.folder)) (opened_sorted run path job)
      (locked_there run few path job.folder Answers (Sorting path job.folder every_message) no_piece (SortsSo run path job) (lets run few path job)) opened_comes past h none f
      (comes_more (acts past) h (lifted (of_plan job.folder) (begun run p mail job.folder)) _ (So (λ later j o. State later j o)) begins_so
      (begin_state run few path job.folder Answers (Sorting path job.folder every_message) no_piece (SortsSo run path job) (lets run few path job) (acts past) h clean free takes))
