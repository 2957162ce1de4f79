-- How `refile` ends, and what shows it.
use Rattle.std.proofs.Common.{◌<◌, ◌^◌, ◌∷◌, [], ℕ, List, Result, Ok, Err, inl, inr, refl}
use Rattle.std.specs.Prelude.{map}
use Rattle.folder_files.specs.Commands.{Marking}
use Rattle.folder_files.specs.Deeds.{Deed}
use Rattle.folder_files.specs.declared.place.Place.{Place}
use Rattle.folder_files.specs.declared.place.Place.TheVariants.{Folder, Mail}
use Rattle.folder_files.specs.declared.refusal.Which.{Which}
use Rattle.folder_files.specs.declared.step.Step.{Step}
use Rattle.file_plans.specs.Plan.{Hand, Plan, after, bind, lifted, ◌>>=◌}
use Rattle.file_plans.specs.Rules.{IfOkay, Keeps}
use Rattle.file_plans.specs.Runs as runs
use Rattle.file_plans.proofs.Acting.{acts}
use Rattle.file_plans.proofs.Framing.{AnyStep, asks_any}
use Rattle.file_plans.proofs.Keeping.{keeps_bind}
use Rattle.step_plans.specs.declared.command_fault.CommandFault.{CommandFault}
use Rattle.step_plans.specs.declared.command_fault.CommandFault.TheVariants as fault
use Rattle.step_plans.proofs.Coming.{Comes, NoneFailed, OfActs, anything, comes_clean, comes_framed, comes_keeps, comes_lifted, comes_more}
use Rattle.step_plans.proofs.Going.{Outcome}
use Rattle.step_plans.proofs.Lasting.{KeptBy}
use Rattle.step_plans.proofs.Ruling.{rules_of}
use Rattle.command_stages.specs.Endings.{of_plan}
use Rattle.opening_plans.specs.Endings.{Answering, PutsNone}
use Rattle.opening_plans.specs.Opening.{Opened, begun}
use Rattle.opening_plans.proofs.BeginState.{HasState, TakesNone, begin_state, was_locked}
use Rattle.opening_plans.proofs.BegunAgain.{IsLeftSafe}
use Rattle.opening_plans.proofs.BegunEnds.{Begins, begun_comes}
use Rattle.opening_plans.proofs.CleanRuns.{Clean, comes_both}
use Rattle.opening_plans.proofs.EndedKept.{keeps_more}
use Rattle.opening_plans.proofs.SettledEnds.{Shown}
use Rattle.opening_plans.proofs.Speaking.{keeps_both}
use Rattle.opening_plans.proofs.WorkEnds.{Ends, EndsWith}
use Rattle.opening_plans.proofs.WorkPledged.{LetsBegin}
use Rattle.refile_plans.specs.Gathering.{Gathered, all_begun, all_ended}
use Rattle.refile_plans.specs.Refile.{gathered_refiled, places_of, refile}
use Rattle.refile_plans.specs.RefileAnswers.{IsEndedFirst, ShowsRefile, source_answers}
use Rattle.refile_plans.specs.RefileDone.{HasRefiledChosen}
use Rattle.refile_plans.specs.RefilePledge.{destinations_of}
use Rattle.refile_plans.specs.declared.job.RefileJob.{RefileJob}
use Rattle.refile_plans.proofs.ChosenEnds.{Sourced, gathered_work_comes, sourced_kept}
use Rattle.refile_plans.proofs.LetGoEnds.{AllLocked, EndsAll, Shown_, all_ended_end, all_locked_kept, stopped_end}
use Rattle.refile_plans.proofs.MailSafe.{OkOnly, begun_safe}
use Rattle.refile_plans.proofs.RefileLets.{w}
use Rattle.refile_plans.proofs.RefileMoved.{HasHeldNone}
use Rattle.refile_plans.proofs.RefilePledged.{EndsRefiled, refile_keeps}
use Rattle.refile_plans.proofs.TargetEnds.{AreReady, Gathers, gathered_comes}

-- so `refile` ends, beside what was so before: each message that its words choose went where it is to go; or this shows its fault
abbrev pub RefileEndsSo : ℕ → List ℕ → RefileJob → (List Deed → Type 0) → List runs.Deed → Hand → Result Unit CommandFault → Type 0
RefileEndsSo run path job F past h (Ok u) = F (acts past) × HasRefiledChosen run path job (acts past)
RefileEndsSo run path job F past h (Err e) = IsEndedFirst (λ k own. F own × ShowsRefile run path job k own) e (acts past)

module _ (run : ℕ) (few : run < 2 ^ 128) (path : List ℕ) (job : RefileJob) where
  abbrev source : Place
  source = Folder path job.source

  abbrev mail : Place
  mail = Mail path

  abbrev Answers : Answering
  Answers = source_answers job

  abbrev Shows : CommandFault → List Deed → Type 0
  Shows e own = ShowsRefile run path job e own

  abbrev So : {A : Type 0} → Outcome A → Outcome (Result A CommandFault)
  So P later j r = EndsWith Shows P later j r

  -- it never ends by a fault of its surroundings that it tells of
  never : (which : Which) (own : List Deed) → Shows (fault.Faulted which) own → ⊥
  never which own (inl s) = s
  never which own (inr (inl t)) = elim t.shows [ inl s ↦ s | inr g ↦ (let is = g.is in cc (is)) ]
  never which own (inr (inr m)) = elim m [ ]

  -- what is asked of the begin of the source is little
  abbrev pub any_piece : List Deed → List ℕ → Type 0
  any_piece own piece = Unit {0}

  abbrev pub any_step : List Deed → Step → Type 0
  any_step own s = Unit {0}

  pub lets : LetsBegin path job.source (Marking path job.source) any_step
  lets = record {
    kinds = λ own kind s k. k;
    makes = λ own q. tt;
    creates = λ own q temp bytes. tt;
    clears = λ own q temp is. tt;
    gives = λ own q held number is. tt;
    drops = λ own q held is away. tt;
    commits = λ own q temp name is. tt;
  }

  abbrev State : Outcome Opened
  State own h o = HasState run few path job.source Answers (Marking path job.source) any_piece any_step lets own h o

  -- the run took no number of the source away
  abbrev pub TakesNoneThere : List Deed → Type 0
  TakesNoneThere own = TakesNone run few path job.source Answers (Marking path job.source) any_piece any_step lets own

  -- the source was begun, and the mail directory is left safe
  abbrev Begun : Outcome Opened
  Begun later j o = State later j o × IsLeftSafe mail later

  abbrev begin : Plan (Result Opened CommandFault)
  begin = lifted (of_plan job.source) (begun run source mail job.source)

  source_comes : (own : List Deed) (h : Hand) → Clean run own h → PutsNone mail own → TakesNoneThere own → Comes own h begin (So Begun)
  source_comes own h clean none takes =
      comes_more own h begin (λ later j r. Ends run few path job.source Answers State later j r × OkOnly (IsLeftSafe mail) later j r) (So Begun) go
      (comes_both own h begin (Ends run few path job.source Answers State) (OkOnly (IsLeftSafe mail)) (begin_state run few path job.source Answers (Marking path job.source) any_piece any_step lets own h clean none takes)
      (comes_lifted own h (of_plan job.source) (begun run source mail job.source) (OkOnly (IsLeftSafe mail)) (OkOnly (IsLeftSafe mail))
      (begun_safe run path job.source own h (Shown run path job.source Answers (Begins run few path job.source Answers)) (inl none) (begun_comes run few path job.source Answers own h clean none)) (λ later j o g. g) (λ later j e g. tt)))
    where
      go : (later : List Deed) (j : Hand) (r : Result Opened CommandFault) → Ends run few path job.source Answers State later j r × OkOnly (IsLeftSafe mail) later j r → So Begun later j r
      go later j (Ok o) q = q
      go later j (Err e) q = inl q.0

  -- the locks of the destinations that were begun
  locks_of : (os : List Opened) (own : List Deed) → AreReady run few path job os own → AllLocked (map (λ to. to.place) os) own
  locks_of [] own ready = tt
  locks_of (o ∷ os) own ready = ((path, o.folder, ready.0.place, ready.0.lock), locks_of os own ready.1)

  -- beside what was so before, and lasts
  module _ (F : List Deed → Type 0) (keeps : KeptBy AnyStep F) where
    abbrev So_ : List runs.Deed → Hand → Result Unit CommandFault → Type 0
    So_ past h r = EndsAll Shows never F keeps past h r

    -- of a source that was begun, by what the run read
    module _ (o : Opened) (text context : List ℕ) where
      abbrev Source : List Deed → Type 0
      Source own = Sourced run few path job o.listing text context own

      abbrev AtGathered : Outcome Gathered
      AtGathered later j g = NoneFailed later × (F later × Gathers run few path job Source (sourced_kept run few path job o.listing text context) later j g)

      abbrev AtWorked : Gathered → Outcome (Result Unit CommandFault)
      AtWorked g later j r = NoneFailed later × ((F later × AllLocked (places_of o g) later) × So (λ end i u. Unit {0}) later j r)

      abbrev ended : Gathered → Plan (Result Unit CommandFault)
      ended g = bind (gathered_refiled run path job o g) (all_ended (places_of o g))

    shown : (own : List Deed) (h : Hand) (r : Result Unit CommandFault) → So (λ end i u. Unit {0}) own h r → Shown_ Shows never F keeps r own
    shown own h (Ok u) s = tt
    shown own h (Err e) s = s

    -- all that were to be begun were, or not
    on_gathered : (o : Opened) (start : List Deed) (i : Hand) (s : State start i o) (past : List runs.Deed) (h : Hand) (g : Gathered) → AtGathered o s.begun_there.text s.begun_there.context (acts past) h g
        → Keeps anything past h (ended o s.begun_there.text s.begun_there.context g) So_
    on_gathered o start i s past h g q =
        keeps_bind anything past h (gathered_refiled run path job o g) (all_ended (places_of o g)) (OfActs (AtWorked o text context g)) So_
        (comes_keeps past (acts past) h (gathered_refiled run path job o g) (AtWorked o text context g) refl
        (comes_clean (acts past) h (gathered_refiled run path job o g) (λ later j r. (F later × AllLocked (places_of o g) later) × So (λ end k u. Unit {0}) later j r) q.0
        (comes_framed AnyStep (λ later. F later × AllLocked (places_of o g) later) (λ now_ t a any f. (keeps now_ t a any f.0, all_locked_kept (places_of o g) now_ t a any f.1)) (acts past) h (gathered_refiled run path job o g)
        (So (λ end k u. Unit {0})) (asks_any (gathered_refiled run path job o g)) (q.1.0, ((path, job.source, s.begun_there.place, was_locked source (acts past) q.1.1.1.lock), locks_of g.opened (acts past) q.1.1.0))
        (gathered_work_comes run few path job o.listing text context o refl s.begun_there.place s.begun_there.name s.begun_there.sequences g (acts past) h q.1.1.1 q.1.1.0 q.1.1.2))))
        (λ later j r z. all_ended_end Shows never F keeps later j (places_of o g) r z.0 z.1.0.0 z.1.0.1 (shown (acts later) j r z.1.1))
      where
        text : List ℕ
        text = s.begun_there.text

        context : List ℕ
        context = s.begun_there.context

    -- the source was begun
    abbrev AtBegun : Outcome (Result Opened CommandFault)
    AtBegun later j r = NoneFailed later × (F later × So Begun later j r)

    abbrev work : Opened → Plan (Result Unit CommandFault)
    work o = bind (all_begun run path (destinations_of job) []) (λ g. bind (gathered_refiled run path job o g) (all_ended (places_of o g)))

    on_begun : (past : List runs.Deed) (h : Hand) (r : Result Opened CommandFault) → AtBegun (acts past) h r → Keeps anything past h (after work r) So_
    on_begun past h (Ok o) q =
        keeps_bind anything past h (all_begun run path (destinations_of job) []) (ended o s.begun_there.text s.begun_there.context) (OfActs (AtGathered o s.begun_there.text s.begun_there.context)) So_
        (comes_keeps past (acts past) h (all_begun run path (destinations_of job) []) (AtGathered o s.begun_there.text s.begun_there.context) refl
        (comes_clean (acts past) h (all_begun run path (destinations_of job) []) (λ later j g. F later × Gathering later j g) q.0
        (comes_framed AnyStep F keeps (acts past) h (all_begun run path (destinations_of job) []) Gathering (asks_any (all_begun run path (destinations_of job) [])) q.1.0
        (gathered_comes run few path job (Source o s.begun_there.text s.begun_there.context) (sourced_kept run few path job o.listing s.begun_there.text s.begun_there.context) (destinations_of job) (λ n c. c) [] (acts past) h s.left.clean q.1.1.1 tt
        (record { safe = s.left.safe; lock = s.begun_there.held.lock; seen = s.begun_there.seen; met = s.numbers })))))
        (λ later j g z. on_gathered o (acts past) h s later j g z)
      where
        s : State (acts past) h o
        s = q.1.1.0

        Gathering : Outcome Gathered
        Gathering later j g = Gathers run few path job (Source o s.begun_there.text s.begun_there.context) (sourced_kept run few path job o.listing s.begun_there.text s.begun_there.context) later j g
    on_begun past h (Err e) q = stopped_end Shows never F keeps past h e q.0 q.1.0 q.1.1

    -- however it ends
    shown_end : (past : List runs.Deed) (h : Hand) → NoneFailed (acts past) → Clean run (acts past) h → PutsNone mail (acts past) → TakesNoneThere (acts past) → F (acts past) → Keeps anything past h (refile run path job) So_
    unfolding refile ◌>>=◌
    shown_end past h none clean free takes f =
        keeps_bind anything past h begin (after work) (OfActs AtBegun) So_
        (comes_keeps past (acts past) h begin AtBegun refl (comes_clean (acts past) h begin (λ later j r. F later × So Begun later j r) none (comes_framed AnyStep F keeps (acts past) h begin (So Begun) (asks_any begin) f (source_comes (acts past) h clean free takes))))
        (λ later j r q. on_begun later j r q)

  -- `refile`, after deeds of which none failed, none put a name into the mail directory, and none took a number of the source away or used a held
  -- name of the run there
  pub refile_ends : (F : List Deed → Type 0) → KeptBy AnyStep F → (past : List runs.Deed) (h : Hand) → NoneFailed (acts past) → Clean run (acts past) h → PutsNone mail (acts past) → TakesNoneThere (acts past) → HasHeldNone run source (acts past) → F (acts past)
      → Keeps anything past h (refile run path job) (RefileEndsSo run path job F)
  refile_ends F keeps past h none clean free takes held f =
      keeps_more anything past h (refile run path job) (λ later j r. So_ F keeps later j r × IfOkay (EndsRefiled run few path job (acts past)) later j r) (RefileEndsSo run path job F) go
      (keeps_both anything (rules_of (w run few path job)) past h (refile run path job) (So_ F keeps) (IfOkay (EndsRefiled run few path job (acts past))) (shown_end F keeps past h none clean free takes f)
      (refile_keeps run few path job past h held (record { numbered = clean.numbered; unfailed = clean.unfailed })))
    where
      go : (later : List runs.Deed) (j : Hand) (r : Result Unit CommandFault) → So_ F keeps later j r × IfOkay (EndsRefiled run few path job (acts past)) later j r → RefileEndsSo run path job F later j r
      go later j (Ok u) q = (q.0, q.1.1)
      go later j (Err e) q = q.0
