-- How `inc` ends, and what shows it.
use Rattle.std.proofs.Common.{◌≡◌, ◌≢◌, inl, inr, ◌<◌, ◌≤◌, ◌+◌, ◌^◌, ◌∷◌, ℕ, Bool, true, false, List, Result, Ok, Err, None, length, sym, ap, subst, arith}
use Rattle.mbox_drop.specs.Drops.{is_drop, messages}
use Rattle.mbox_drop.specs.Long.{first_long}
use Rattle.mh_sequences.specs.declared.run.Run.{Run}
use Rattle.folder_files.specs.Commands.{Marking}
use Rattle.folder_files.specs.Deeds.{Deed, WasDone, did, on}
use Rattle.folder_files.specs.declared.place.FilePath.{FilePath}
use Rattle.folder_files.specs.declared.place.Place.{Place}
use Rattle.folder_files.specs.declared.place.Place.TheVariants.{Folder, Mail}
use Rattle.folder_files.specs.declared.refusal.Refusal.TheVariants as refusal
use Rattle.folder_files.specs.declared.refusal.Which.{Which}
use Rattle.folder_files.specs.declared.step.Answer.TheVariants as answer
use Rattle.folder_files.specs.declared.step.Step.{Step}
use Rattle.folder_files.specs.declared.step.Step.TheVariants as step
use Rattle.file_plans.specs.Asking.{cut_drop, drop_cut_of}
use Rattle.file_plans.specs.Plan.{Hand, Plan, ask, bind, lifted, ◌>>=◌}
use Rattle.file_plans.specs.Rules.{Keeps}
use Rattle.file_plans.specs.Runs as runs
use Rattle.file_plans.specs.declared.answers.DropCut.{DropCut}
use Rattle.file_plans.specs.declared.answers.DropCut.TheVariants as drop_cut
use Rattle.file_plans.specs.declared.asking.Stop.{Stop}
use Rattle.file_plans.proofs.Acting.{acts}
use Rattle.file_plans.proofs.Framing.{AnyStep}
use Rattle.step_plans.specs.CommandFaults.{of_sink, of_stop}
use Rattle.step_plans.specs.declared.command_fault.CommandFault.{CommandFault}
use Rattle.step_plans.specs.declared.command_fault.CommandFault.TheVariants as fault
use Rattle.step_plans.proofs.Coming.{Comes, NoneFailed, anything, comes_more, comes_say, comes_then, comes_to}
use Rattle.step_plans.proofs.Going.{Outcome}
use Rattle.step_plans.proofs.Lasting.{KeptBy}
use Rattle.step_plans.proofs.Stepping.{on_cut}
use Rattle.sequence_commits.specs.Committing.{changed_sequences}
use Rattle.sequence_commits.specs.Marking.{marked_by_all}
use Rattle.command_stages.specs.Current.{made_current}
use Rattle.command_stages.specs.Endings.{of_plan}
use Rattle.opening_plans.specs.Endings.{PutsNone}
use Rattle.opening_plans.specs.Making.{made_begun}
use Rattle.opening_plans.specs.Opening.{Opened, opened_of}
use Rattle.opening_plans.proofs.BeginState.{HasState, TakesNone, locked_there}
use Rattle.opening_plans.proofs.CleanRuns.{Clean}
use Rattle.opening_plans.proofs.MadeEnds.{ShowsMade, made_state}
use Rattle.opening_plans.proofs.SequencesEnd.{Left, changed_comes}
use Rattle.opening_plans.proofs.WorkEnds.{Ends, EndsBeside, EndsWith, comes_shown, current_beside, shown_beside, work_ends}
use Rattle.opening_plans.proofs.WorkPledged.{LetsBegin}
use Rattle.inc_plans.specs.Inc.{cut_by, cut_if, drop_ended, heading, heading_told, inc, new_marked, new_marks, opened_incorporated, room_counted, telling_of, told_taken, top_of}
use Rattle.inc_plans.specs.DropTaken.{drop_taken, where_of}
use Rattle.inc_plans.specs.Taking.{Telling}
use Rattle.inc_plans.specs.IncAnswers.{HasTakenMail, ShowsInc, WasCounted, WasTold, grown, inc_answers}
use Rattle.inc_plans.specs.declared.size.DropSize.{DropSize}
use Rattle.inc_plans.specs.IncJob.{IncJob}
use Rattle.inc_plans.proofs.Courses.{stored_still}
use Rattle.inc_plans.proofs.Fronts.{some_messages}
use Rattle.inc_plans.proofs.DropEnds.{Ready, Rooms, TakesAll, pass_comes, pieces_once, room_comes}

-- a cut of a drop, and then the rest
comes_cut : {B F : Type 0} (own : List Deed) (h : Hand) (from : Stop → F) (Q : Outcome (Result B F)) (f : FilePath) (l : ℕ) (k : DropCut → Plan (Result B F))
    → Comes (did (step.CutDrop f l) answer.Done ∷ own) h (k drop_cut.Done) Q → Comes (did (step.CutDrop f l) answer.Grown ∷ own) h (k drop_cut.Grown) Q → Comes (did (step.CutDrop f l) answer.Gone ∷ own) h (k drop_cut.Gone) Q
    → Comes own h (lifted from (cut_drop f l) >>= k) Q
unfolding Comes cut_drop ask lifted bind ◌>>=◌
comes_cut own h from Q f l k d w g = on_cut (λ a. Comes (did (step.CutDrop f l) a ∷ own) h (k (drop_cut_of a)) Q) d w g

module _ (run : ℕ) (few : run < 2 ^ 128) (path : List ℕ) (job : IncJob) where
  abbrev p : Place
  p = Folder path job.folder

  abbrev mail : Place
  mail = Mail path

  abbrev Shows : CommandFault → List Deed → Type 0
  Shows e own = ShowsInc run path job e own

  abbrev So : {A : Type 0} → Outcome A → Outcome (Result A CommandFault)
  So P later j r = EndsWith Shows P later j r

  -- what is asked of its beginning is little
  abbrev pub any_piece : List Deed → List ℕ → Type 0
  any_piece own piece = Unit {0}

  abbrev pub any_step : List Deed → Step → Type 0
  any_step own s = Unit {0}

  pub lets : LetsBegin path job.folder (Marking path job.folder) any_step
  lets = record {
    kinds = λ own kind s k. k;
    makes = λ own q. tt;
    creates = λ own q temp bytes. tt;
    clears = λ own q temp is. tt;
    gives = λ own q held number is. tt;
    drops = λ own q held is away. tt;
    commits = λ own q temp name is. tt;
  }

  abbrev State : Outcome Opened
  State own h o = HasState run few path job.folder (inc_answers job) (Marking path job.folder) any_piece any_step lets own h o

  abbrev Has : List Deed → Type 0
  Has own = HasTakenMail run path job own

  has_kept : KeptBy AnyStep Has
  has_kept own s a any g = (g.0, record { drop = g.1.drop; read = on g.1.read; is_one = g.1.is_one; stored = stored_still run p g.0 (messages g.1.drop) own s a tt g.1.stored })

  -- the faults of the folder, as those of `inc`
  folder_so : {A : Type 0} (P : Outcome A) (later : List Deed) (j : Hand) (r : Result A CommandFault) → Ends run few path job.folder (inc_answers job) P later j r → So P later j r
  folder_so P later j (Ok a) g = g
  folder_so P later j (Err e) g = inl (inl g)

  -- the heading
  told_comes : {A : Type 0} (b : Bool) (own : List Deed) (h : Hand) (next : Plan (Result A CommandFault)) (Q : Outcome (Result A CommandFault)) → Comes own h next Q → Comes own h (heading_told b job.folder >>= (λ done. next)) Q
  unfolding Comes bind ◌>>=◌
  told_comes true own h next Q g = g
  told_comes false own h next Q g = comes_say own h of_sink Q (heading job.folder) (λ done. next) g

  -- the drop is cut
  cut_comes : (b : Bool) (l : ℕ) (own : List Deed) (h : Hand) → Has own → Comes own h (cut_if b job.drop l) (So (λ later j u. Has later))
  unfolding drop_ended
  cut_comes false l own h has = comes_to own h (Ok tt) (So (λ later j u. Has later)) has
  cut_comes true l own h has =
      comes_cut own h of_stop (So (λ later j u. Has later)) job.drop l cut_by
      (comes_to _ h (Ok tt) (So (λ later j u. Has later)) (has_kept own (step.CutDrop job.drop l) answer.Done tt has))
      (comes_to _ h (Err (fault.Refused refusal.DropGrown)) (So (λ later j u. Has later)) (inr grown))
      (comes_to _ h (Ok tt) (So (λ later j u. Has later)) (has_kept own (step.CutDrop job.drop l) answer.Gone tt has))

  -- the work on a folder that was begun
  module _ (own : List Deed) (h : Hand) (o : Opened) (s : State own h o) where
    abbrev listing : List Run
    listing = o.listing

    abbrev text : List ℕ
    text = s.begun_there.text

    abbrev context : List ℕ
    context = s.begun_there.context

    abbrev Ready_ : List Deed → Hand → Type 0
    Ready_ later j = Ready run few path job listing text context later j

    ready : Ready_ own h
    ready = record { left = s.left; lock = locked_there run few path job.folder (inc_answers job) (Marking path job.folder) any_piece any_step lets own h o s; seen = s.begun_there.seen }

    -- the marks of the new messages, and the context
    marks_come : (numbers : List ℕ) (later : List Deed) (j : Hand) → Ready_ later j → Has later
        → Comes later j (lifted (of_plan job.folder) (changed_sequences run p mail job.folder o.sequences (marked_by_all (new_marks job numbers) o.sequences)) >>= (λ marked. made_current run path job.folder)) (So (λ last i u. Has last))
    marks_come numbers later j r has =
        comes_then later j (lifted (of_plan job.folder) (changed_sequences run p mail job.folder o.sequences (marked_by_all (new_marks job numbers) o.sequences))) (λ marked. made_current run path job.folder)
        (Ends run few path job.folder (inc_answers job) (λ last i u. Left run few path job.folder (inc_answers job) last i × Has last)) (So (λ last i u. Has last))
        (comes_shown run few path job.folder (inc_answers job) later j (changed_sequences run p mail job.folder o.sequences (marked_by_all (new_marks job numbers) o.sequences)) (λ last i u. Left run few path job.folder (inc_answers job) last i × Has last)
        (shown_beside run few path job.folder (inc_answers job) Has has_kept later j (changed_sequences run p mail job.folder o.sequences (marked_by_all (new_marks job numbers) o.sequences)) (λ last i u. Left run few path job.folder (inc_answers job) last i) has
        (changed_comes run few path job.folder (inc_answers job) listing text context (marked_by_all (new_marks job numbers) o.sequences)
        (inr (numbers, ap (marked_by_all (new_marks job numbers)) s.begun_there.sequences)) o.sequences later j r.seen r.lock r.left)))
        (λ last i u q. comes_more last i (made_current run path job.folder) (Ends run few path job.folder (inc_answers job) (λ end k v. Has end)) (So (λ end k v. Has end)) (folder_so (λ end k v. Has end)) (current_beside run few path job.folder (inc_answers job) Has has_kept last i q.0 q.1))
        (λ last i e q. inl (inl q))

    abbrev telling : Telling
    telling = telling_of job o.sequences.cur

    abbrev then_told : DropSize → Plan (Result Unit CommandFault)
    then_told size =
        (heading_told job.silent job.folder >>= (λ done. drop_taken (where_of run job.folder p telling) job.drop size.length size.messages (top_of listing)))
        >>= (λ t. (lifted (of_plan job.folder) (changed_sequences run p mail job.folder o.sequences (marked_by_all (new_marks job t.numbers) o.sequences)) >>= (λ marked. made_current run path job.folder)) >>= (λ marked. cut_if job.truncate job.drop size.length))

    -- a drop that was counted is taken in
    module _ (d : List ℕ) (is_one : is_drop d ≡ true) (short : first_long (messages d) ≡ None) where
      taken_come : (later : List Deed) (j : Hand) → 1 ≤ length d → Ready_ later j → WasCounted job.drop d later → WasTold job.drop (length d) later → top_of listing + length (messages d) ≤ 999999 → 1 ≤ length (messages d)
          → Comes later j (then_told (record { length = length d; messages = length (messages d) })) (So (λ last i u. Has last))
      taken_come later j some r counted told room many =
          comes_then later j (heading_told job.silent job.folder >>= (λ done. drop_taken (where_of run job.folder p telling) job.drop (length d) (length (messages d)) (top_of listing)))
          (λ t. (lifted (of_plan job.folder) (changed_sequences run p mail job.folder o.sequences (marked_by_all (new_marks job t.numbers) o.sequences)) >>= (λ marked. made_current run path job.folder)) >>= (λ marked. cut_if job.truncate job.drop (length d)))
          (So (TakesAll run few path job listing text context d is_one short telling)) (So (λ last i u. Has last))
          (told_comes job.silent later j (drop_taken (where_of run job.folder p telling) job.drop (length d) (length (messages d)) (top_of listing)) (So (TakesAll run few path job listing text context d is_one short telling))
          (pass_comes run few path job listing text context d is_one short telling later j some r (counted, told) (omega (arith, room), λ last. absurd (omega (arith, room, many, last)))))
          (λ mid i t q.
          comes_then mid i (lifted (of_plan job.folder) (changed_sequences run p mail job.folder o.sequences (marked_by_all (new_marks job t.numbers) o.sequences)) >>= (λ marked. made_current run path job.folder)) (λ marked. cut_if job.truncate job.drop (length d))
          (So (λ last k u. Has last)) (So (λ last k u. Has last)) (marks_come t.numbers mid i q.ready (t.numbers, q.mail_))
          (λ last k u has. cut_comes job.truncate (length d) last k has)
          (λ last k e g. g))
          (λ mid i e g. g)

    work_comes : Comes own h (room_counted job.folder job.drop (top_of listing) >>= then_told) (So (λ later j u. Has later))
    work_comes =
        comes_then own h (room_counted job.folder job.drop (top_of listing)) then_told (So (Rooms run few path job listing text context)) (So (λ later j u. Has later)) (room_comes run few path job listing text context own h ready)
        (λ later j size q.
        subst (λ z. Comes later j (then_told z) (So (λ last i u. Has last))) (sym q.1.counts.size_is)
        (taken_come q.0 q.1.counts.is_one q.1.counts.short later j (at_least (length q.0) q.1.counts.read.some) q.1.counts.read.ready
        (record { read = pieces_once job.drop q.0 later q.1.counts.read.pieces; is_one = q.1.counts.is_one; short = q.1.counts.short }) q.1.counts.read.told q.1.room (some_messages q.0 q.1.counts.is_one (at_least (length q.0) q.1.counts.read.some))))
        (λ later j e g. g)
      where
        at_least : (n : ℕ) → n ≢ 0 → 1 ≤ n
        at_least n some = omega (arith, some)

    opened_comes : Comes own h (opened_incorporated run path job o) (So (λ later j u. Has later))
    unfolding opened_incorporated told_taken new_marked
    opened_comes = subst (λ x. Comes own h (opened_incorporated run path job x) (So (λ later j u. Has later))) (sym same) work_comes
      where
        same : o ≡ opened_of p job.folder o.listing o.sequences o.ends
        same = λ i. record { place = s.begun_there.place i; folder = s.begun_there.name i; listing = o.listing; sequences = o.sequences; ends = o.ends }

  never_faulted : (which : Which) (own : List Deed) → Shows (fault.Faulted which) own → ⊥
  never_faulted which own (inl (inl g)) = g
  never_faulted which own (inl (inr g)) = let is = g.is in cc (is)
  never_faulted which own (inr g) = elim g [ ]

  locked_so : (own : List Deed) (h : Hand) (o : Opened) → State own h o → WasDone (step.Lock p) own
  locked_so own h o s = locked_there run few path job.folder (inc_answers job) (Marking path job.folder) any_piece any_step lets own h o s

  made_so : (later : List Deed) (j : Hand) (r : Result Opened CommandFault) → EndsWith (ShowsMade run few path job.folder (inc_answers job) (Marking path job.folder) any_piece any_step lets) State later j r → So State later j r
  made_so later j (Ok o) g = g
  made_so later j (Err e) g = inl g

  -- `inc`, after deeds of which none failed, none put a name into the mail directory and none took a number away
  pub inc_ends : (F : List Deed → Type 0) → KeptBy AnyStep F → (past : List runs.Deed) (h : Hand) → NoneFailed (acts past) → Clean run (acts past) h → PutsNone mail (acts past)
      → TakesNone run few path job.folder (inc_answers job) (Marking path job.folder) any_piece any_step lets (acts past) → F (acts past) → Keeps anything past h (inc run path job) (EndsBeside Shows F Has)
  unfolding inc
  inc_ends F keeps past h none clean free takes g =
      work_ends run few path job.folder (inc_answers job) Shows never_faulted F Has keeps has_kept State (lifted (of_plan job.folder) (made_begun run p mail job.folder)) (opened_incorporated run path job) locked_so opened_comes past h none g
      (comes_more (acts past) h (lifted (of_plan job.folder) (made_begun run p mail job.folder)) (EndsWith (ShowsMade run few path job.folder (inc_answers job) (Marking path job.folder) any_piece any_step lets) State) (So State) made_so
      (made_state run few path job.folder (inc_answers job) (Marking path job.folder) any_piece any_step lets (acts past) h clean free takes))
