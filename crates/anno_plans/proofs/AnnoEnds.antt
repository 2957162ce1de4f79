-- How `anno` ends, and what shows it.
use Rattle.std.proofs.Common.{◌≡◌, inl, inr, ◌<◌, ◌-◌, ◌^◌, ℕ, true, List, Result, Ok, Err, refl, sym, ◌∙◌, ap}
use Rattle.mh_base.specs.Numbers.{IsMsgNum}
use Rattle.mh_sequences.specs.Runs.{has, numbers_of, last_in}
use Rattle.mh_sequences.specs.Sequences.{Marked}
use Rattle.mh_sequences.specs.declared.run.Run.{Run}
use Rattle.msg_ranges.specs.Selection.{marks_of}
use Rattle.msg_ranges.proofs.Rising.{lists}
use Rattle.folder_files.specs.Commands.{Annotating}
use Rattle.folder_files.specs.Deeds.{Deed}
use Rattle.folder_files.specs.declared.place.Place.{Place}
use Rattle.folder_files.specs.declared.place.Place.TheVariants.{Folder, Mail}
use Rattle.folder_files.specs.declared.refusal.Refusal.{Refusal}
use Rattle.folder_files.specs.declared.refusal.Refusal.TheVariants as refusal
use Rattle.folder_files.specs.declared.refusal.Which.{Which}
use Rattle.file_plans.specs.Plan.{Hand, Return, after, bind, lifted, ◌>>=◌}
use Rattle.file_plans.specs.Rules.{Keeps}
use Rattle.file_plans.specs.Runs as runs
use Rattle.file_plans.proofs.Acting.{acts}
use Rattle.file_plans.proofs.Framing.{AnyStep}
use Rattle.step_plans.specs.declared.command_fault.CommandFault.{CommandFault}
use Rattle.step_plans.specs.declared.command_fault.CommandFault.TheVariants as command
use Rattle.step_plans.proofs.Coming.{Comes, NoneFailed, anything, comes_lifted, comes_more, comes_then, comes_to}
use Rattle.step_plans.proofs.Going.{Outcome}
use Rattle.step_plans.proofs.Lasting.{KeptBy}
use Rattle.command_stages.specs.Chosen.{folder_with}
use Rattle.command_stages.specs.Current.{made_current}
use Rattle.command_stages.specs.Endings.{of_plan}
use Rattle.mh_looks.proofs.Ending.{by_choice}
use Rattle.message_notes.specs.Noting.{messages_noted}
use Rattle.opening_plans.specs.Endings.{Answering, IsRefusedBy, PutsNone, ShowsEnd}
use Rattle.opening_plans.specs.FolderPledge.{told_within}
use Rattle.opening_plans.specs.Opening.{Opened, begun}
use Rattle.opening_plans.proofs.BeginState.{HasState, TakesNone, begin_state, locked_there, refused_there}
use Rattle.opening_plans.proofs.CleanRuns.{Clean}
use Rattle.opening_plans.proofs.SequencesEnd.{Left}
use Rattle.opening_plans.proofs.WorkEnds.{EndsBeside, EndsWith, current_comes, work_ends}
use Rattle.refile_plans.specs.RmmPledge.{every_message}
use Rattle.refile_plans.proofs.RmmPledged.{listed_runs}
use Rattle.refile_plans.proofs.Selected.{chosen_listed, chosen_rise, in_runs}
use Rattle.anno_plans.specs.Anno.{anno, chosen_from, opened_noted, said_noted}
use Rattle.anno_plans.specs.AnnoAnswers.{ShowsAnno, anno_answers}
use Rattle.anno_plans.specs.AnnoPledge.{NotesSo}
use Rattle.anno_plans.specs.declared.job.AnnoJob.{AnnoJob}
use Rattle.anno_plans.proofs.AnnoPledged.{lets}
use Rattle.anno_plans.proofs.Listed.{like}
use Rattle.anno_plans.proofs.NotedEnds.{All, Moving, Plainly, noted_comes}
use Rattle.refile_plans.proofs.Lasts.{last_listed, last_small}

module _ (run : ℕ) (few : run < 2 ^ 128) (path : List ℕ) (job : AnnoJob) where
  abbrev p : Place
  p = Folder path job.folder

  abbrev mail : Place
  mail = Mail path

  abbrev no_piece : List Deed → List ℕ → Type 0
  no_piece own piece = ⊥

  abbrev Answers : Answering
  Answers = anno_answers job

  abbrev Shows : CommandFault → List Deed → Type 0
  Shows e own = ShowsAnno run path job e own

  abbrev So : {A : Type 0} → Outcome A → Outcome (Result A CommandFault)
  So P later j r = EndsWith Shows P later j r

  abbrev Leaves : {A : Type 0} → Outcome A
  Leaves later j x = Left run few path job.folder Answers later j

  abbrev State : List Deed → Hand → Opened → Type 0
  State own h o = HasState run few path job.folder Answers (Annotating path job.folder every_message job.lines) no_piece (NotesSo run path job) (lets run few path job) own h o

  abbrev Nothing : List Deed → Type 0
  Nothing own = Unit {0}

  -- what words refuse, once the folder was listed and read
  refused_shows : (own : List Deed) (listing : List Run) (m : Marked) (e : CommandFault) → ((r : Refusal) → chosen_from job listing m ≡ Err (command.Refused r) → IsRefusedBy run path job.folder Answers r own)
      → chosen_from job listing m ≡ Err e → Shows e own
  refused_shows own listing m e b is =
      by_choice (λ z. chosen_from job listing m ≡ Err z → Shows z own) (folder_with job.negation (numbers_of listing) (marks_of m)) job.specs e is (λ word f. inl (b (refusal.BadSpec word) f)) (λ word f. inl (b (refusal.Absent word) f))
      (λ word f. inl (b (refusal.EmptyRange word) f)) (λ word f. inl (b (refusal.EmptySequence word) f)) is

  module _ (own : List Deed) (h : Hand) (o : Opened) (s : State own h o) where
    abbrev told : Marked
    told = told_within o.listing s.begun_there.text s.begun_there.context job.folder

    module _ (numbers : List ℕ) (is : chosen_from job o.listing o.sequences ≡ Ok numbers) where
      by_told : chosen_from job o.listing told ≡ Ok numbers
      by_told = ap (λ m. chosen_from job o.listing m) (sym s.begun_there.sequences) ∙ is

      there : (k : ℕ) → lists numbers k ≡ true → has o.listing k ≡ true
      there k e = chosen_listed (like job) o.listing o.sequences numbers is k e

      ok : (k : ℕ) → lists numbers k ≡ true → IsMsgNum k
      ok k e = in_runs o.listing (listed_runs run p mail o.listing s.begun_there.text s.begun_there.context own s.begun_there.seen) k (there k e)

      begins : Moving run few path job o.listing s.begun_there.text s.begun_there.context numbers by_told numbers (last_in o.listing) own
      begins = record {
        safe = s.left.safe;
        lock = locked_there run few path job.folder Answers (Annotating path job.folder every_message job.lines) no_piece (NotesSo run path job) (lets run few path job) own h o s;
        seen = s.begun_there.seen;
        met = λ k e. (ok k e, s.numbers k (ok k e) (there k e));
        topped = (last_small o.listing (listed_runs run p mail o.listing s.begun_there.text s.begun_there.context own s.begun_there.seen), λ e. inl (s.begun_there.seen, last_listed o.listing e));
      }

      -- so the run may go on
      left_then : (later : List Deed) (j : Hand) → All run few path job o.listing s.begun_there.text s.begun_there.context numbers by_told later j tt → Left run few path job.folder Answers later j
      left_then later j f = record { clean = f.0; safe = f.1.0 }

      noted : Comes own h (lifted (of_plan job.folder) (messages_noted run p job.lines numbers (last_in o.listing))) (So Leaves)
      noted =
          comes_lifted own h (of_plan job.folder) (messages_noted run p job.lines numbers (last_in o.listing))
          (Plainly run few path job o.listing s.begun_there.text s.begun_there.context numbers by_told (All run few path job o.listing s.begun_there.text s.begun_there.context numbers by_told)) (So Leaves)
          (noted_comes run few path job o.listing s.begun_there.text s.begun_there.context numbers by_told 1 numbers (chosen_rise (like job) o.listing o.sequences numbers is) (λ k e. e) (last_in o.listing) own h s.left.clean begins)
          (λ later j u f. left_then later j f) (λ later j e f. f)

    by_value : (value : Result (List ℕ) CommandFault) → chosen_from job o.listing o.sequences ≡ value → Comes own h (after (λ numbers. lifted (of_plan job.folder) (messages_noted run p job.lines numbers (last_in o.listing))) value) (So Leaves)
    by_value (Ok numbers) is = noted numbers is
    by_value (Err e) is =
        comes_to own h (Err e) (So Leaves)
        (refused_shows own o.listing o.sequences e (λ r. refused_there run few path job.folder Answers (Annotating path job.folder every_message job.lines) no_piece (NotesSo run path job) (lets run few path job) own h o r s) is)

    at_place : (q : Place) → q ≡ p → Comes own h (Return (chosen_from job o.listing o.sequences) >>= (λ numbers. lifted (of_plan job.folder) (messages_noted run q job.lines numbers (last_in o.listing)))) (So Leaves)
    unfolding Comes bind ◌>>=◌
    at_place q place = rw place (by_value (chosen_from job o.listing o.sequences) refl)

    said_comes : Comes own h (said_noted run job o) (So Leaves)
    unfolding said_noted
    said_comes = at_place o.place s.begun_there.place

    as_current : (later : List Deed) (j : Hand) (r : Result Unit CommandFault) → EndsWith (ShowsEnd run path job.folder Answers) Leaves later j r → So (λ end i u. Nothing end) later j r
    as_current later j (Ok u) f = tt
    as_current later j (Err e) f = inl f

    -- the work on a folder that was begun
    opened_comes : Comes own h (opened_noted run path job o) (So (λ later j u. Nothing later))
    unfolding opened_noted
    opened_comes =
        comes_then own h (said_noted run job o) (λ noted. made_current run path job.folder) (So Leaves) (So (λ later j u. Nothing later)) said_comes
        (λ later j u left. comes_more later j (made_current run path job.folder) _ (So (λ end i v. Nothing end)) as_current (current_comes run few path job.folder Answers later j left))
        (λ later j e f. f)

  never : (which : Which) (own : List Deed) → Shows (command.Faulted which) own → ⊥
  never which own (inl f) = f
  never which own (inr f) = elim f [ ]

  begins_so : (later : List Deed) (j : Hand) (r : Result Opened CommandFault) → EndsWith (ShowsEnd run path job.folder Answers) (λ end i o. State end i o) later j r → So (λ end i o. State end i o) later j r
  begins_so later j (Ok o) f = f
  begins_so later j (Err e) f = inl f

  -- `anno`, after deeds of which none failed, none put a name into the mail directory and none took a number away
  pub anno_ends : (F : List Deed → Type 0) → KeptBy AnyStep F → (past : List runs.Deed) (h : Hand) → NoneFailed (acts past) → Clean run (acts past) h → PutsNone mail (acts past)
      → TakesNone run few path job.folder Answers (Annotating path job.folder every_message job.lines) no_piece (NotesSo run path job) (lets run few path job) (acts past) → F (acts past)
      → Keeps anything past h (anno run path job) (EndsBeside Shows F Nothing)
  unfolding anno
  anno_ends F keeps past h none clean free takes f =
      work_ends run few path job.folder Answers Shows never F Nothing keeps (λ own s a any g. g) (λ later j o. State later j o) (lifted (of_plan job.folder) (begun run p mail job.folder)) (opened_noted run path job)
      (locked_there run few path job.folder Answers (Annotating path job.folder every_message job.lines) no_piece (NotesSo run path job) (lets run few path job)) opened_comes past h none f
      (comes_more (acts past) h (lifted (of_plan job.folder) (begun run p mail job.folder)) _ (So (λ later j o. State later j o)) begins_so
      (begin_state run few path job.folder Answers (Annotating path job.folder every_message job.lines) no_piece (NotesSo run path job) (lets run few path job) (acts past) h clean free takes))
