-- How `folder -pack` ends, and what shows it.
use Rattle.std.proofs.Common.{◌≡◌, inl, inr, ◌<◌, ◌^◌, ◌∷◌, [], true, ℕ, List, Result, Ok, Err, sym, subst}
use Rattle.mh_base.specs.Entries.{entry_text}
use Rattle.mh_base.specs.declared.entry.Entry.TheVariants.{Number}
use Rattle.mh_sequences.specs.Runs.{AreRuns}
use Rattle.mh_sequences.specs.Sequences.{Marked}
use Rattle.folder_files.specs.Commands.{Sorting}
use Rattle.folder_files.specs.Deeds.{Deed, WasDone}
use Rattle.folder_files.specs.declared.place.Place.{Place}
use Rattle.folder_files.specs.declared.place.Place.TheVariants.{Folder, Mail}
use Rattle.folder_files.specs.declared.refusal.Which.{Which}
use Rattle.folder_files.specs.declared.step.Step.TheVariants as step
use Rattle.file_plans.specs.Plan.{Hand, lifted, ◌>>=◌}
use Rattle.file_plans.specs.Rules.{Keeps}
use Rattle.file_plans.specs.Runs as runs
use Rattle.file_plans.proofs.Acting.{acts}
use Rattle.file_plans.proofs.Framing.{AnyStep}
use Rattle.step_plans.specs.declared.command_fault.CommandFault.{CommandFault}
use Rattle.step_plans.specs.declared.command_fault.CommandFault.TheVariants as command
use Rattle.step_plans.specs.declared.fault.PlanFault.{PlanFault}
use Rattle.step_plans.proofs.Coming.{Comes, NoneFailed, anything, comes_lifted, comes_more, comes_then, comes_to}
use Rattle.step_plans.proofs.Going.{Outcome}
use Rattle.step_plans.proofs.Lasting.{KeptBy}
use Rattle.message_places.specs.Places.{AreMsgNums, froms, is_in}
use Rattle.message_places.specs.declared.moves.Move.{Move}
use Rattle.message_places.proofs.NumberLists.{in_good}
use Rattle.command_stages.specs.Current.{made_current}
use Rattle.command_stages.specs.Endings.{of_plan}
use Rattle.opening_plans.specs.Endings.{Answering, HasMetIn, PutsNone, ShowsEnd}
use Rattle.opening_plans.specs.FolderPledge.{told_within}
use Rattle.opening_plans.specs.Opening.{Opened, begun, opened_of}
use Rattle.opening_plans.proofs.BeginState.{HasState, TakesNone, begin_state, locked_there}
use Rattle.opening_plans.proofs.CleanRuns.{Clean}
use Rattle.opening_plans.proofs.SequencesEnd.{Left}
use Rattle.opening_plans.proofs.WorkEnds.{EndsBeside, EndsWith, current_comes, work_ends}
use Rattle.refile_plans.specs.RmmPledge.{every_message}
use Rattle.refile_plans.proofs.RmmPledged.{listed_runs}
use Rattle.step_plans.specs.CommandFaults.{of_sink}
use Rattle.step_plans.proofs.Coming.{comes_say}
use Rattle.told_folders.specs.Plans.{lines_said}
use Rattle.sortm_plans.proofs.CommitsShown as commits
use Rattle.sortm_plans.proofs.CommitsShown.{Commits}
use Rattle.pack_plans.specs.Pack.{line_after, line_told, opened_packed, pack, renumbered}
use Rattle.sortm_plans.specs.MovesAnswers.{long_marks, none_left, none_met}
use Rattle.sortm_plans.proofs.MarkedEnds as stage
use Rattle.pack_plans.specs.PackAnswers.{ShowsPack, pack_answers}
use Rattle.pack_plans.specs.PackPledge.{MakesMarks, PacksSo, TellsPacked}
use Rattle.pack_plans.specs.Places.{listing_moves}
use Rattle.pack_plans.specs.declared.job.PackJob.{PackJob}
use Rattle.pack_plans.proofs.PackLets.{lets, makes_kept}
use Rattle.pack_plans.proofs.PackMoves.{meant_good, moving_distinct, moving_good, moving_listed}

module _ (run : ℕ) (few : run < 2 ^ 128) (path : List ℕ) (job : PackJob) where
  abbrev p : Place
  p = Folder path job.folder

  abbrev mail : Place
  mail = Mail path

  abbrev Answers : Answering
  Answers = pack_answers

  abbrev Shows : CommandFault → List Deed → Type 0
  Shows e own = ShowsPack run path job e own

  abbrev So : {A : Type 0} → Outcome A → Outcome (Result A CommandFault)
  So P later j r = EndsWith Shows P later j r

  -- what it makes after its deeds, and what shows its faults
  abbrev shown : Commits
  shown = record {
    run = run;
    few = few;
    path = path;
    folder = job.folder;
    answers = Answers;
    shows = λ e own. Shows e own;
    makes = MakesMarks run path job;
    makes_kept = makes_kept run few path job;
    shows_end = λ e own f. inl f;
    shows_long = λ l listing text context new own seen made long. inr (long_marks (record { listing = listing; text = text; context = context; seen = seen; new = new; made = made; long = long }));
    shows_left = λ listing text context own seen last. inr (none_left seen last);
    shows_met = λ own met. inr (none_met met);
  }

  -- how a plan on the folder ends
  abbrev Plainly : {A : Type 0} → Outcome A → Outcome (Result A PlanFault)
  Plainly P later j r = commits.Plainly shown P later j r

  abbrev State : List Deed → Hand → Opened → Type 0
  State own h o = HasState run few path job.folder Answers (Sorting path job.folder every_message) (TellsPacked run path job) (PacksSo run path job) (lets run few path job) own h o

  abbrev Nothing : List Deed → Type 0
  Nothing own = Unit {0}

  abbrev Leaves : {A : Type 0} → Outcome A
  Leaves later j x = Left run few path job.folder Answers later j

  -- the work on a folder that was begun
  module _ (own : List Deed) (h : Hand) (o : Opened) (s : State own h o) where
    abbrev text : List ℕ
    text = s.begun_there.text

    abbrev context : List ℕ
    context = s.begun_there.context

    abbrev marked : Marked
    marked = told_within o.listing text context job.folder

    abbrev opened : Opened
    opened = opened_of p job.folder o.listing marked o.ends

    runs_so : AreRuns o.listing
    runs_so = listed_runs run p mail o.listing text context own s.begun_there.seen

    -- these move
    abbrev ms : List Move
    ms = listing_moves o.listing

    abbrev takes : List ℕ
    takes = froms ms

    good_takes : AreMsgNums takes
    good_takes = moving_good o.listing runs_so

    met_all : (k : ℕ) → is_in k takes ≡ true → HasMetIn p (entry_text (Number k)) own
    met_all k e = s.numbers k (in_good takes good_takes k e) (moving_listed o.listing runs_so k e)

    was : WasDone (step.Lock p) own
    was = locked_there run few path job.folder Answers (Sorting path job.folder every_message) (TellsPacked run path job) (PacksSo run path job) (lets run few path job) own h o s

    -- where none moves nothing is done
    moves_come : Comes own h (renumbered run mail opened ms) (Plainly Leaves)
    moves_come =
        stage.moved_comes shown o.listing runs_so text context o.ends (λ later. Unit {0}) (λ later t a any f. tt) takes good_takes (moving_distinct o.listing runs_so) ms good_takes (moving_distinct o.listing runs_so) (meant_good o.listing runs_so) (λ k e. e)
        (λ later new u made. made) own h s.begun_there.base.0 tt s.begun_there.seen s.begun_there.held.lock was s.begun_there.base.1 met_all s.left

    same_opened : o ≡ opened
    same_opened = λ i. opened_of (s.begun_there.place i) (s.begun_there.name i) o.listing (s.begun_there.sequences i) o.ends

    as_current : (later : List Deed) (j : Hand) (r : Result Unit CommandFault) → EndsWith (ShowsEnd run path job.folder Answers) Leaves later j r → So (λ end i u. Nothing end) later j r
    as_current later j (Ok u) f = tt
    as_current later j (Err e) f = inl f

    line_comes : (later : List Deed) (j : Hand) (line : List ℕ) → Left run few path job.folder Answers later j → Comes later j (lines_said (line ∷ [])) (So Leaves)
    unfolding lines_said
    line_comes later j line left = comes_say later j of_sink (So Leaves) line (λ told. lines_said []) (comes_to later j (Ok tt) (So Leaves) left)

    at_opened : Comes own h (opened_packed run path job opened) (So (λ later j u. Nothing later))
    unfolding opened_packed line_told
    at_opened =
        comes_then own h (lifted (of_plan job.folder) (renumbered run mail opened (listing_moves o.listing))) (λ ends. lines_said (line_after job o.listing marked ends ∷ []) >>= (λ told. made_current run path job.folder)) (So Leaves) (So (λ later j u. Nothing later))
        (comes_lifted own h (of_plan job.folder) (renumbered run mail opened (listing_moves o.listing)) (Plainly Leaves) (So Leaves) moves_come (λ last_ i u g. g) (λ last_ i e g. g))
        (λ later j ends left.
        comes_then later j (lines_said (line_after job o.listing marked ends ∷ [])) (λ told. made_current run path job.folder) (So Leaves) (So (λ last_ i u. Nothing last_)) (line_comes later j (line_after job o.listing marked ends) left)
        (λ last_ i u left_. comes_more last_ i (made_current run path job.folder) _ (So (λ end k v. Nothing end)) as_current (current_comes run few path job.folder Answers last_ i left_)) (λ last_ i e f. f))
        (λ later j e f. f)

    opened_comes : Comes own h (opened_packed run path job o) (So (λ later j u. Nothing later))
    opened_comes = subst (λ z. Comes own h (opened_packed run path job z) (So (λ later j u. Nothing later))) (sym same_opened) at_opened

  never : (which : Which) (own : List Deed) → Shows (command.Faulted which) own → ⊥
  never which own (inl f) = f
  never which own (inr f) = elim f [ ]

  begins_so : (later : List Deed) (j : Hand) (r : Result Opened CommandFault) → EndsWith (ShowsEnd run path job.folder Answers) (λ end i o. State end i o) later j r → So (λ end i o. State end i o) later j r
  begins_so later j (Ok o) f = f
  begins_so later j (Err e) f = inl f

  -- `folder -pack`, after deeds of which none failed, none put a name into the mail directory and none took a number away
  pub pack_ends : (F : List Deed → Type 0) → KeptBy AnyStep F → (past : List runs.Deed) (h : Hand) → NoneFailed (acts past) → Clean run (acts past) h → PutsNone mail (acts past)
      → TakesNone run few path job.folder Answers (Sorting path job.folder every_message) (TellsPacked run path job) (PacksSo run path job) (lets run few path job) (acts past) → F (acts past)
      → Keeps anything past h (pack run path job) (EndsBeside Shows F Nothing)
  unfolding pack
  pack_ends F keeps past h none clean free takes f =
      work_ends run few path job.folder Answers Shows never F Nothing keeps (λ own s a any g. g) (λ later j o. State later j o) (lifted (of_plan job.folder) (begun run p mail job.folder)) (opened_packed run path job)
      (locked_there run few path job.folder Answers (Sorting path job.folder every_message) (TellsPacked run path job) (PacksSo run path job) (lets run few path job)) opened_comes past h none f
      (comes_more (acts past) h (lifted (of_plan job.folder) (begun run p mail job.folder)) _ (So (λ later j o. State later j o)) begins_so
      (begin_state run few path job.folder Answers (Sorting path job.folder every_message) (TellsPacked run path job) (PacksSo run path job) (lets run few path job) (acts past) h clean free takes))
