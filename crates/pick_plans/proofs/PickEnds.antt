-- How a `pick` ends that marks, and what shows it.
use Rattle.std.proofs.Common.{◌≡◌, ◌⊎◌, ◌<◌, ◌^◌, ◌∷◌, [], ℕ, Bool, true, false, List, Result, Ok, Err, inl, inr, refl, sym, ◌∙◌, ap, subst}
use Rattle.mh_sequences.specs.Runs.{AreRuns, has, numbers_of}
use Rattle.mh_sequences.specs.Sequences.{Marked}
use Rattle.mh_sequences.specs.declared.run.Run.{Run}
use Rattle.msg_ranges.specs.Selection.{marks_of}
use Rattle.msg_ranges.proofs.Rising.{lists}
use Rattle.folder_files.specs.Commands.{Marking}
use Rattle.folder_files.specs.Deeds.{Deed, WasDone}
use Rattle.folder_files.specs.declared.place.Place.{Place}
use Rattle.folder_files.specs.declared.place.Place.TheVariants.{Folder, Mail}
use Rattle.folder_files.specs.declared.refusal.Refusal.{Refusal}
use Rattle.folder_files.specs.declared.refusal.Refusal.TheVariants as refusal
use Rattle.folder_files.specs.declared.refusal.Which.{Which}
use Rattle.folder_files.specs.declared.step.Answer.TheVariants as answer
use Rattle.folder_files.specs.declared.step.Step.{Step}
use Rattle.folder_files.specs.declared.step.Step.TheVariants as step
use Rattle.file_plans.specs.Plan.{Hand, Plan, Return, after, bind, lifted, ◌>>=◌}
use Rattle.file_plans.specs.Rules.{Keeps}
use Rattle.file_plans.specs.Runs as runs
use Rattle.file_plans.proofs.Acting.{acts}
use Rattle.file_plans.proofs.Framing.{AnyStep}
use Rattle.step_plans.specs.ContextCommit.{LIMIT_BYTES}
use Rattle.step_plans.specs.declared.command_fault.CommandFault.{CommandFault}
use Rattle.step_plans.specs.declared.command_fault.CommandFault.TheVariants as fault
use Rattle.step_plans.proofs.Coming.{Comes, NoneFailed, anything, comes_more, comes_then, comes_to}
use Rattle.step_plans.proofs.Facts.{once_kept}
use Rattle.step_plans.proofs.Going.{Outcome}
use Rattle.step_plans.proofs.Lasting.{KeptBy}
use Rattle.sequence_commits.specs.Committing.{changed_sequences}
use Rattle.command_stages.specs.Chosen.{folder_with}
use Rattle.command_stages.specs.Current.{made_current}
use Rattle.command_stages.specs.Endings.{of_plan}
use Rattle.mh_looks.proofs.Ending.{by_choice, name_of}
use Rattle.opening_plans.specs.Endings.{HasMetIn, IsRefusedBy, PutsNone, met_gone}
use Rattle.opening_plans.specs.FolderPledge.{told_within}
use Rattle.opening_plans.specs.Opening.{Opened, begun}
use Rattle.opening_plans.specs.Reads.{HaveSeen}
use Rattle.opening_plans.proofs.BeginState.{HasState, TakesNone, begin_state, locked_there, refused_there}
use Rattle.opening_plans.proofs.ChosenListed.{words_listed}
use Rattle.opening_plans.proofs.CleanRuns.{Clean, clean_more}
use Rattle.opening_plans.proofs.FolderPledged.{seen_kept}
use Rattle.opening_plans.proofs.NamesKept.{LeavesNames, names_met_kept, names_safe_kept}
use Rattle.opening_plans.proofs.SequencesEnd.{Left, changed_comes}
use Rattle.opening_plans.proofs.WorkEnds.{Ends, EndsBeside, EndsWith, comes_shown, current_comes, work_ends}
use Rattle.opening_plans.proofs.WorkPledged.{LetsBegin}
use Rattle.told_folders.proofs.ChangesEnd.{lines_come}
use Rattle.pick_plans.specs.Lines.{lines_for}
use Rattle.pick_plans.specs.Marking.{marked_for}
use Rattle.pick_plans.specs.Pick.{chosen_from, found_marked, found_told, opened_picked, pick_changes, said_if, some_found, unless_none}
use Rattle.pick_plans.specs.PickAnswers.{HasFound, ShowsPicking, ShowsTest, long_message, none_matches, pick_answers}
use Rattle.pick_plans.specs.Testing.{ReadMessage, after_reading, all_tested}
use Rattle.pick_plans.specs.declared.job.PickJob.{PickJob}
use Rattle.pick_plans.specs.declared.job.PickMarks.{PickMarks}
use Rattle.pick_plans.proofs.PickPledged.{chosen_numbers}
use Rattle.pick_plans.proofs.Tested.{All, AreTested, Ends as TestEnds, Stopped, all_comes, is_gone, reading_kept, reading_keeps, tested_all, too_long}
use Rattle.opening_plans.proofs.Listed.{settled_runs}
use Rattle.told_folders.proofs.MessagesStand.{reading}

-- lines are said, and that is all
module _ (own : List Deed) (h : Hand) (Q : Outcome (Result Unit CommandFault)) (q : Q own h (Ok tt)) where
  pub said_comes : (list : Bool) (lines : List (List ℕ)) → Comes own h (said_if list lines) Q
  said_comes true lines = lines_come own h Q q lines
  said_comes false lines = comes_to own h (Ok tt) Q q

-- the rest, with what a test gave: the same deeds and hand, or no message matches
abbrev pub OrNone : List ℕ → List Deed → Hand → Outcome (Result (List ℕ) CommandFault)
OrNone found own h later j (Ok all) = (later ≡ own) × (j ≡ h) × (all ≡ found)
OrNone found own h later j (Err e) = (later ≡ own) × (e ≡ fault.Refused refusal.NoMatch) × (found ≡ [])

pub unless_comes : (list : Bool) (found : List ℕ) (own : List Deed) (h : Hand) → Comes own h (unless_none list found) (OrNone found own h)
unfolding unless_none
unless_comes list [] own h =
    comes_then own h (said_if list (lines_for [])) _ (λ later j r. (later ≡ own) × (j ≡ h) × (r ≡ Ok tt)) (OrNone [] own h) (said_comes own h (λ later j r. (later ≡ own) × (j ≡ h) × (r ≡ Ok tt)) (refl, refl, refl) list (lines_for []))
    (λ later j u q. comes_to later j (Err (fault.Refused refusal.NoMatch)) (OrNone [] own h) (q.0, refl, refl))
    (λ later j e q. absurd (cc (q.2)))
unless_comes list (n ∷ ns) own h = comes_to own h (Ok (n ∷ ns)) (OrNone (n ∷ ns) own h) (refl, refl, refl)

-- so some messages are found: with what was read; or none matches; or a reading ended it
abbrev pub FindsSome : Place → PickJob → List ℕ → List Deed → Hand → Outcome (Result (List ℕ) CommandFault)
FindsSome place job numbers own h later j (Ok found) = AreTested place job.expr [] numbers own later found × (j ≡ h)
FindsSome place job numbers own h later j (Err e) = ((e ≡ fault.Refused refusal.NoMatch) × AreTested place job.expr [] numbers own later []) ⊎ Stopped place numbers own e later

pub found_comes : (place : Place) (job : PickJob) (numbers : List ℕ) (own : List Deed) (h : Hand) → Comes own h (some_found place job numbers) (FindsSome place job numbers own h)
unfolding some_found
found_comes place job numbers own h =
    comes_then own h (all_tested place job.expr [] numbers) (λ found. unless_none job.list found) (TestEnds place job.expr numbers own (All place job.expr [] numbers own h)) (FindsSome place job numbers own h) (all_comes place job.expr [] numbers own h)
    (λ later j found t. comes_more later j (unless_none job.list found) (OrNone found later j) (FindsSome place job numbers own h) (λ last i r q. more later j found t last i r q) (unless_comes job.list found later j))
    (λ later j e q. inr q)
  where
    more : (later : List Deed) (j : Hand) (found : List ℕ) → All place job.expr [] numbers own h later j found → (last : List Deed) (i : Hand) (r : Result (List ℕ) CommandFault) → OrNone found later j last i r → FindsSome place job numbers own h last i r
    more later j found t last i (Ok all) q = rw (q.0, q.1, q.2) t
    more later j found t last i (Err e) q = inl (q.1, subst (λ z. AreTested place job.expr [] numbers own last z) q.2 (subst (λ z. AreTested place job.expr [] numbers own z found) (sym q.0) t.0))

module _ (run : ℕ) (few : run < 2 ^ 128) (path : List ℕ) (job : PickJob) (p : PickMarks) where
  abbrev place : Place
  place = Folder path job.folder

  abbrev mail : Place
  mail = Mail path

  abbrev any_piece : List Deed → List ℕ → Type 0
  any_piece own piece = Unit {0}

  abbrev any_step : List Deed → Step → Type 0
  any_step own s = Unit {0}

  abbrev pub Shows : CommandFault → List Deed → Type 0
  Shows e own = ShowsPicking run path job p e own

  abbrev So : {A : Type 0} → Outcome A → Outcome (Result A CommandFault)
  So P later j r = EndsWith Shows P later j r

  abbrev Leaves : {A : Type 0} → Outcome A
  Leaves later j x = Left run few path job.folder (pick_answers job p) later j

  pub lets : LetsBegin path job.folder (Marking path job.folder) any_step
  lets = record {
    kinds = λ own kind s k. k;
    makes = λ own q. tt;
    creates = λ own q temp bytes. tt;
    clears = λ own q temp is. tt;
    gives = λ own q held number is. tt;
    drops = λ own q held is away. tt;
    commits = λ own q temp name is. tt;
  }

  abbrev State : List Deed → Hand → Opened → Type 0
  State own h o = HasState run few path job.folder (pick_answers job p) (Marking path job.folder) any_piece any_step lets own h o

  -- what words refuse, once the folder was listed and read
  refused_shows : (own : List Deed) (listing : List Run) (m : Marked) (e : CommandFault) → ((r : Refusal) → chosen_from job listing m ≡ Err (fault.Refused r) → IsRefusedBy run path job.folder (pick_answers job p) r own)
      → chosen_from job listing m ≡ Err e → Shows e own
  refused_shows own listing m e b is =
      by_choice (λ z. chosen_from job listing m ≡ Err z → Shows z own) (folder_with job.negation (numbers_of listing) (marks_of m)) job.specs e is (λ word f. inl (b (refusal.BadSpec word) f)) (λ word f. inl (b (refusal.Absent word) f))
      (λ word f. inl (b (refusal.EmptyRange word) f)) (λ word f. inl (b (refusal.EmptySequence word) f)) is

  -- a part that ends as a plan on the folder does
  of_folder : {A : Type 0} (P : Outcome A) (later : List Deed) (j : Hand) (r : Result A CommandFault) → Ends run few path job.folder (pick_answers job p) P later j r → So P later j r
  of_folder P later j (Ok a) f = f
  of_folder P later j (Err e) f = inl f

  module _ (own : List Deed) (h : Hand) (o : Opened) (s : State own h o) where
    abbrev made : List ℕ → Marked
    made found = marked_for p found o.sequences

    abbrev text : List ℕ
    text = s.begun_there.text

    abbrev context : List ℕ
    context = s.begun_there.context

    abbrev Seen : List Deed → Type 0
    Seen later = HaveSeen run place mail o.listing text context later

    module _ (numbers : List ℕ) (is : chosen_from job o.listing o.sequences ≡ Ok numbers) where
      is_told : chosen_from job o.listing (told_within o.listing text context job.folder) ≡ Ok numbers
      is_told = ap (λ m. chosen_from job o.listing m) (sym s.begun_there.sequences) ∙ is

      seen_after : (ms : List ReadMessage) → Seen (after_reading place ms own)
      seen_after ms = reading_keeps place AnyStep Seen (seen_kept run place mail o.listing text context) (λ x. tt) ms own s.begun_there.seen

      has_found : (later : List Deed) (found : List ℕ) → AreTested place job.expr [] numbers own later found → HasFound run path job found later
      has_found later found t = record {
        listing = o.listing;
        text = text;
        context = context;
        seen = subst Seen (sym t.read) (seen_after t.messages);
        numbers = numbers;
        chosen = is_told;
        tested = tested_all place job.expr numbers found own later t;
      }

      stopped_shows : (e : CommandFault) (later : List Deed) → Stopped place numbers own e later → Shows e later
      stopped_shows _ _ (too_long n l ms) = inr (long_message n (after_reading place ms own, refl))
      stopped_shows _ _ (is_gone n ms among) =
          inl (met_gone (inl (inl (LIMIT_BYTES, refl)))
          (reading_keeps place (LeavesNames place) (HasMetIn place (name_of n)) (names_met_kept place (name_of n)) (λ x. (λ e. e, λ e. e)) ms own (s.numbers n (chosen_numbers job o.listing o.sequences numbers is valid n among) (listed n among))))
        where
          valid : AreRuns o.listing
          valid = subst AreRuns (sym s.begun_there.seen.listed.1) (settled_runs run s.begun_there.seen.listed.0)

          listed : (k : ℕ) → lists numbers k ≡ true → has o.listing k ≡ true
          listed k e = words_listed job.negation o.listing o.sequences job.specs numbers is k e

      found_shows : (later : List Deed) (j : Hand) (r : Result (List ℕ) CommandFault) → FindsSome place job numbers own h later j r → So (λ last i found. AreTested place job.expr [] numbers own last found × (i ≡ h)) later j r
      found_shows later j (Ok found) q = q
      found_shows later j (Err e) (inl q) = inr (rw (q.0) (none_matches (has_found later [] q.1)))
      found_shows later j (Err e) (inr q) = stopped_shows e later q

      left_read : (before : List Deed) (n : ℕ) (t : List ℕ) → Left run few path job.folder (pick_answers job p) before h → Left run few path job.folder (pick_answers job p) (reading place n (answer.Content t) ∷ before) h
      left_read before n t l = record {
        clean = clean_more run before h (step.Read place (name_of n) LIMIT_BYTES) (answer.Content t) (λ e. cc (e)) tt l.clean;
        safe = names_safe_kept place before (step.Read place (name_of n) LIMIT_BYTES) (answer.Content t) (λ e. e, λ e. e) l.safe;
      }

      left_after : (ms : List ReadMessage) (before : List Deed) → Left run few path job.folder (pick_answers job p) before h → Left run few path job.folder (pick_answers job p) (after_reading place ms before) h
      left_after ms before l = reading_kept place (λ z. Left run few path job.folder (pick_answers job p) z h) (λ n. Unit {0}) (λ b n t fine f. left_read b n t f) ms (λ n e. tt) before l

      -- they are marked
      commits : (later : List Deed) (found : List ℕ) → AreTested place job.expr [] numbers own later found
          → Comes later h (lifted (of_plan job.folder) (changed_sequences run place mail job.folder o.sequences (made found))) (So Leaves)
      commits later found t =
          comes_more later h (lifted (of_plan job.folder) (changed_sequences run place mail job.folder o.sequences (made found))) (Ends run few path job.folder (pick_answers job p) Leaves) (So Leaves) (of_folder Leaves)
          (comes_shown run few path job.folder (pick_answers job p) later h (changed_sequences run place mail job.folder o.sequences (made found)) Leaves
          (changed_comes run few path job.folder (pick_answers job p) o.listing text context (made found)
          (inr (t.messages, is_told ∙ ap (λ z. Ok z) (sym t.numbers), ap (marked_for p found) s.begun_there.sequences ∙ ap (λ z. marked_for p z (told_within o.listing text context job.folder)) t.matches))
          o.sequences later h (subst Seen (sym t.read) (seen_after t.messages)) (subst (WasDone (step.Lock place)) (sym t.read) locked_after) (subst (λ z. Left run few path job.folder (pick_answers job p) z h) (sym t.read) (left_after t.messages own s.left))))
        where
          locked_after : WasDone (step.Lock place) (after_reading place t.messages own)
          locked_after = reading_keeps place AnyStep (WasDone (step.Lock place)) (once_kept _ AnyStep) (λ x. tt) t.messages own (locked_there run few path job.folder (pick_answers job p) (Marking path job.folder) any_piece any_step lets own h o s)

    abbrev Finishes : Outcome Unit
    Finishes later j u = Unit {0}

    told_comes : (later : List Deed) (j : Hand) (found : List ℕ) → Left run few path job.folder (pick_answers job p) later j → Comes later j (found_told run path job found) (So Finishes)
    unfolding found_told
    told_comes later j found l =
        comes_then later j (said_if job.list (lines_for found)) (λ told. made_current run path job.folder) (So Leaves) (So Finishes) (said_comes later j (So Leaves) l job.list (lines_for found))
        (λ last i u g. comes_more last i (made_current run path job.folder) (Ends run few path job.folder (pick_answers job p) Leaves) (So Finishes) of_any (current_comes run few path job.folder (pick_answers job p) last i g)) (λ last i e g. g)
      where
        of_any : (last : List Deed) (i : Hand) (r : Result Unit CommandFault) → Ends run few path job.folder (pick_answers job p) Leaves last i r → So Finishes last i r
        of_any last i (Ok u) f = tt
        of_any last i (Err e) f = inl f

    abbrev then_told : Place → List ℕ → List ℕ → Plan (Result Unit CommandFault)
    then_told q n found = lifted (of_plan job.folder) (changed_sequences run q mail n o.sequences (made found)) >>= (λ done. found_told run path job found)

    marked_comes : (numbers : List ℕ) → chosen_from job o.listing o.sequences ≡ Ok numbers → (later : List Deed) (found : List ℕ) → AreTested place job.expr [] numbers own later found → Comes later h (then_told place job.folder found) (So Finishes)
    marked_comes numbers is later found t =
        comes_then later h (lifted (of_plan job.folder) (changed_sequences run place mail job.folder o.sequences (made found))) (λ done. found_told run path job found) (So Leaves) (So Finishes) (commits numbers is later found t)
        (λ last i u f. told_comes last i found f) (λ last i e f. f)

    chosen_by : (value : Result (List ℕ) CommandFault) → chosen_from job o.listing o.sequences ≡ value → Comes own h (after (λ numbers. some_found place job numbers >>= then_told place job.folder) value) (So Finishes)
    chosen_by (Err e) is =
        comes_to own h (Err e) (So Finishes) (refused_shows own o.listing o.sequences e (λ r. refused_there run few path job.folder (pick_answers job p) (Marking path job.folder) any_piece any_step lets own h o r s) is)
    chosen_by (Ok numbers) is =
        comes_then own h (some_found place job numbers) (then_told place job.folder) (So (λ last i found. AreTested place job.expr [] numbers own last found × (i ≡ h))) (So Finishes)
        (comes_more own h (some_found place job numbers) (FindsSome place job numbers own h) (So (λ last i found. AreTested place job.expr [] numbers own last found × (i ≡ h))) (found_shows numbers is) (found_comes place job numbers own h))
        (λ later j found t. subst (λ k. Comes later k (then_told place job.folder found) (So Finishes)) (sym t.1) (marked_comes numbers is later found t.0)) (λ later j e f. f)

    chosen_at : (q : Place) (n : List ℕ) → q ≡ place → n ≡ job.folder → Comes own h (Return (chosen_from job o.listing o.sequences) >>= (λ numbers. some_found q job numbers >>= then_told q n)) (So Finishes)
    unfolding Comes bind ◌>>=◌
    chosen_at q n at name = rw (at, name) (chosen_by (chosen_from job o.listing o.sequences) refl)

    -- the work on a folder that was begun
    opened_comes : Comes own h (opened_picked run path job p o) (So Finishes)
    unfolding opened_picked found_marked
    opened_comes = chosen_at o.place o.folder s.begun_there.place s.begun_there.name

  never_faulted : (which : Which) (own : List Deed) → Shows (fault.Faulted which) own → ⊥
  never_faulted which own (inl s) = s
  never_faulted which own (inr s) = untested s
    where
      untested : ShowsTest run path job (fault.Faulted which) own → ⊥
      untested s = elim s [ ]

  -- after deeds of which none failed and none put a name into the mail directory
  pub changes_end : (F : List Deed → Type 0) → KeptBy AnyStep F → (past : List runs.Deed) (h : Hand) → NoneFailed (acts past) → Clean run (acts past) h → PutsNone mail (acts past)
      → TakesNone run few path job.folder (pick_answers job p) (Marking path job.folder) any_piece any_step lets (acts past) → F (acts past)
      → Keeps anything past h (pick_changes run path job p) (EndsBeside Shows F (λ own. Unit {0}))
  unfolding pick_changes
  changes_end F keeps past h none clean free takes f =
      work_ends run few path job.folder (pick_answers job p) Shows never_faulted F (λ own. Unit {0}) keeps (λ own s a any g. tt) State (lifted (of_plan job.folder) (begun run place mail job.folder)) (opened_picked run path job p)
      (locked_there run few path job.folder (pick_answers job p) (Marking path job.folder) any_piece any_step lets) (λ own i o s. opened_comes own i o s) past h none f
      (comes_more (acts past) h (lifted (of_plan job.folder) (begun run place mail job.folder)) (Ends run few path job.folder (pick_answers job p) State) (EndsWith Shows State) (of_folder State)
      (begin_state run few path job.folder (pick_answers job p) (Marking path job.folder) any_piece any_step lets (acts past) h clean free takes))
