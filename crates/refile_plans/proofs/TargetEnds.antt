-- How the destinations of `refile` are begun, one after another, and what shows how that ended.
use Rattle.std.proofs.Common.{◌≡◌, ◌≢◌, ◌<◌, ◌^◌, ◌++◌, ◌∷◌, [], ℕ, List, Result, Ok, Err, inl, inr, refl, sym, ap, subst}
use Rattle.std.specs.Prelude.{Contains}
use Rattle.folder_files.specs.Deeds.{Deed, Once, WasDone, did, now, on}
use Rattle.folder_files.specs.declared.place.Place.{Place}
use Rattle.folder_files.specs.declared.place.Place.TheVariants.{Folder, Mail}
use Rattle.folder_files.specs.declared.step.Answer.{Answer}
use Rattle.folder_files.specs.declared.step.Answer.TheVariants as answer
use Rattle.folder_files.specs.declared.step.Step.{Step}
use Rattle.folder_files.specs.declared.step.Step.TheVariants as step
use Rattle.file_plans.specs.Framing.{AsksOnly}
use Rattle.file_plans.specs.Plan.{Hand, Plan, lifted}
use Rattle.file_plans.proofs.Framing.{AnyStep, asks_any, asks_lifted}
use Rattle.step_plans.specs.Locking.{lock_name}
use Rattle.step_plans.specs.PlanFaults.{of_stop}
use Rattle.step_plans.specs.declared.command_fault.CommandFault.{CommandFault}
use Rattle.step_plans.specs.declared.command_fault.CommandFault.TheVariants as command
use Rattle.step_plans.specs.declared.fault.PlanFault.{PlanFault}
use Rattle.step_plans.specs.declared.fault.PlanFault.TheVariants as fault
use Rattle.step_plans.proofs.Asks.{Commits}
use Rattle.step_plans.proofs.Coming.{Comes, comes_bind, comes_framed, comes_lifted, comes_make, comes_more, comes_to}
use Rattle.step_plans.proofs.Facts.{LeavesLock}
use Rattle.step_plans.proofs.Going.{Outcome, Sound, goes_lifted, okay}
use Rattle.step_plans.proofs.Lasting.{KeptBy}
use Rattle.command_stages.specs.Endings.{of_plan}
use Rattle.opening_plans.specs.Endings.{ShowsInFolder}
use Rattle.opening_plans.specs.Making.{made_begun, once_made}
use Rattle.opening_plans.specs.Opening.{Opened, begun}
use Rattle.opening_plans.specs.Reads.{HaveSeen}
use Rattle.opening_plans.proofs.BeginState.{was_locked}
use Rattle.opening_plans.proofs.BegunAgain.{IsLeftSafe, begun_again_comes, left_safe_kept}
use Rattle.opening_plans.proofs.BegunEnds.{Begins as BegunSo}
use Rattle.opening_plans.proofs.CleanRuns.{Clean, clean_more, comes_both, comes_goes}
use Rattle.opening_plans.proofs.FolderPledged.{HasBegun, seen_kept}
use Rattle.opening_plans.proofs.NamesKept.{LeavesNames}
use Rattle.opening_plans.proofs.SettledEnds.{Shown}
use Rattle.opening_plans.proofs.WorkEnds.{EndsWith, folder_shows}
use Rattle.refile_plans.specs.Gathering.{Gathered, after_one, all_begun, gathered}
use Rattle.refile_plans.specs.RefileAnswers.{ShowsRefile, ShowsTarget, target_answers}
use Rattle.refile_plans.specs.RefilePledge.{destinations_of}
use Rattle.refile_plans.specs.declared.job.RefileJob.{RefileJob}
use Rattle.refile_plans.proofs.BeginsAsks.{Begins, asks_made_begun}
use Rattle.refile_plans.proofs.FolderNames.{destinations_other, first_there, later_there}
use Rattle.refile_plans.proofs.MailSafe.{OkOnly, begun_safe}
use Rattle.refile_plans.proofs.RefileLets.{destination_goes, w}

module _ (run : ℕ) (few : run < 2 ^ 128) (path : List ℕ) (job : RefileJob) where
  abbrev source : Place
  source = Folder path job.source

  abbrev mail : Place
  mail = Mail path

  abbrev Shows : CommandFault → List Deed → Type 0
  Shows e own = ShowsRefile run path job e own

  abbrev So : {A : Type 0} → Outcome A → Outcome (Result A CommandFault)
  So P later j r = EndsWith Shows P later j r

  -- a destination that was begun, as the run has listed and read it; its lock was taken
  pub record IsReady (o : Opened) (own : List Deed) : Type 0 where
    pub is_one : Contains (destinations_of job) o.folder
    pub place : o.place ≡ Folder path o.folder
    pub text : List ℕ
    pub context : List ℕ
    pub seen : HaveSeen run (Folder path o.folder) mail o.listing text context own
    pub lock : WasDone (step.Lock (Folder path o.folder)) own

  abbrev pub AreReady : List Opened → List Deed → Type 0
  AreReady [] own = Unit {0}
  AreReady (o ∷ os) own = IsReady o own × AreReady os own

  ready_kept : (o : Opened) → KeptBy AnyStep (IsReady o)
  ready_kept o own s a any f = record { is_one = f.is_one; place = f.place; text = f.text; context = f.context; seen = seen_kept run (Folder path o.folder) mail o.listing f.text f.context own s a tt f.seen; lock = on f.lock }

  pub all_ready_kept : (os : List Opened) → KeptBy AnyStep (AreReady os)
  all_ready_kept [] own s a any f = tt
  all_ready_kept (o ∷ os) own s a any f = (ready_kept o own s a any f.0, all_ready_kept os own s a any f.1)

  ready_behind : (os : List Opened) (o : Opened) (own : List Deed) → AreReady os own → IsReady o own → AreReady (os ++ o ∷ []) own
  ready_behind [] o own all one = (one, tt)
  ready_behind (x ∷ os) o own all one = (all.0, ready_behind os o own all.1 one)

  -- one of them
  module _ (name : List ℕ) (c : Contains (destinations_of job) name) where
    abbrev p : Place
    p = Folder path name

    -- once it was begun the run may go on
    abbrev Begins_ : Outcome Opened
    Begins_ later j o = Clean run later j × IsLeftSafe mail later

    abbrev ShownSo : {A : Type 0} → Outcome A → Outcome (Result A PlanFault)
    ShownSo P later j r = Shown run path name target_answers P later j r

    begun_comes : (own : List Deed) (h : Hand) → Clean run own h → IsLeftSafe mail own → Comes own h (begun run p mail name) (ShownSo Begins_)
    begun_comes own h clean safe =
        comes_more own h (begun run p mail name) (λ later j r. ShownSo (BegunSo run few path name target_answers) later j r × OkOnly (IsLeftSafe mail) later j r) (ShownSo Begins_) go
        (comes_both own h (begun run p mail name) (ShownSo (BegunSo run few path name target_answers)) (OkOnly (IsLeftSafe mail)) comes (begun_safe run path name own h (ShownSo (BegunSo run few path name target_answers)) safe comes))
      where
        comes : Comes own h (begun run p mail name) (ShownSo (BegunSo run few path name target_answers))
        comes = begun_again_comes run few path name target_answers own h clean safe

        go : (later : List Deed) (j : Hand) (r : Result Opened PlanFault) → ShownSo (BegunSo run few path name target_answers) later j r × OkOnly (IsLeftSafe mail) later j r → ShownSo Begins_ later j r
        go later j (Ok o) q = (q.0.left.clean, q.1)
        go later j (Err e) q = q.0

    abbrev HasMade : List Deed → Type 0
    HasMade own = Once (λ d older. d.step ≡ step.MakeFolder p) own

    abbrev Makes : Outcome (Result Opened PlanFault)
    Makes later j (Ok o) = Begins_ later j o
    Makes later j (Err e) = ShowsTarget run path job (of_plan name e) later

    plainly_shown : (e : PlanFault) (own : List Deed) → ShowsInFolder run path name target_answers e own → ShowsTarget run path job (of_plan name e) own
    plainly_shown e own f = record { target = name; is_one = c; shows = inl (folder_shows run few path name target_answers e own f) }

    -- one that isn't there any more
    as_made : (e : PlanFault) (own : List Deed) → HasMade own → ShowsInFolder run path name target_answers e own → ShowsTarget run path job (of_plan name (once_made e)) own
    as_made fault.Faulted own made f = plainly_shown fault.Faulted own f
    as_made (fault.Locked q) own made f = plainly_shown (fault.Locked q) own f
    as_made (fault.Meddled q x) own made f = plainly_shown (fault.Meddled q x) own f
    as_made fault.Full own made f = plainly_shown fault.Full own f
    as_made (fault.Absent q) own made f = record { target = name; is_one = c; shows = inr (record { is = ap (λ z. command.Meddled z lock_name) f.0; gone = f.1; made = made }) }
    as_made (fault.TooLarge l) own made f = plainly_shown (fault.TooLarge l) own f
    as_made fault.Memory own made f = plainly_shown fault.Memory own f

    once_comes : (own : List Deed) (h : Hand) (a : Answer) → a ≢ answer.Failed → Clean run own h → IsLeftSafe mail own → Comes (did (step.MakeFolder p) a ∷ own) h (lifted once_made (begun run p mail name)) Makes
    once_comes own h a live clean safe =
        comes_lifted (did (step.MakeFolder p) a ∷ own) h once_made (begun run p mail name) (λ later j r. HasMade later × ShownSo Begins_ later j r) Makes
        (comes_framed AnyStep HasMade (λ before s b any f. on f) (did (step.MakeFolder p) a ∷ own) h (begun run p mail name) (ShownSo Begins_) (asks_any (begun run p mail name)) (now refl)
        (begun_comes (did (step.MakeFolder p) a ∷ own) h (clean_more run own h (step.MakeFolder p) a live tt clean) (left_safe_kept mail own (step.MakeFolder p) a (λ e. e) safe)))
        (λ later j o q. q.1)
        (λ later j e q. as_made e later q.0 q.1)

    made_comes : (own : List Deed) (h : Hand) → Clean run own h → IsLeftSafe mail own → Comes own h (made_begun run p mail name) Makes
    unfolding made_begun
    made_comes own h clean safe =
        comes_make own h of_stop Makes p (λ made. lifted once_made (begun run p mail name)) (once_comes own h answer.Done (λ e. cc (e)) clean safe) (once_comes own h answer.Exists (λ e. cc (e)) clean safe)

    abbrev plan : Plan (Result Opened CommandFault)
    plan = lifted (of_plan name) (made_begun run p mail name)

    abbrev Targets : Outcome Opened
    Targets later j o = Begins_ later j o × IsReady o later

    abbrev Pledged : List Deed → Outcome Opened
    Pledged own later j o = HasBegun (w run few path job) own path name later o

    is_ready : (own later : List Deed) (o : Opened) → HasBegun (w run few path job) own path name later o → IsReady o later
    is_ready own later o b = record {
      is_one = subst (λ z. Contains (destinations_of job) z) (sym b.name) c;
      place = subst (λ z. o.place ≡ Folder path z) (sym b.name) b.place;
      text = b.text;
      context = b.context;
      seen = subst (λ z. HaveSeen run (Folder path z) mail o.listing b.text b.context later) (sym b.name) b.seen;
      lock = subst (λ z. WasDone (step.Lock (Folder path z)) later) (sym b.name) (was_locked p later b.held.lock);
    }

    pub target_comes : (own : List Deed) (h : Hand) → Clean run own h → IsLeftSafe mail own → Comes own h plan (So Targets)
    target_comes own h clean safe =
        comes_more own h plan (λ later j r. (Sound (w run few path job) later j × okay (Pledged own) later j r) × So Begins_ later j r) (So Targets) go
        (comes_goes (w run few path job) own h plan (okay (Pledged own)) (So Begins_) (record { numbered = clean.numbered; unfailed = clean.unfailed })
        (goes_lifted (w run few path job) own h (of_plan name) (made_begun run p mail name) (Pledged own) (destination_goes run few path job name c own h))
        (comes_lifted own h (of_plan name) (made_begun run p mail name) Makes (So Begins_) (made_comes own h clean safe) (λ later j o q. q) (λ later j e q. inr (inl q))))
      where
        go : (later : List Deed) (j : Hand) (r : Result Opened CommandFault) → (Sound (w run few path job) later j × okay (Pledged own) later j r) × So Begins_ later j r → So Targets later j r
        go later j (Ok o) q = (q.1, is_ready own later o q.0.1)
        go later j (Err e) q = q.1

  -- a step that leaves the names of the source and its lock
  abbrev pub LeavesSource : Step → Type 0
  LeavesSource s = LeavesNames source s × LeavesLock source s

  away : (q : Place) (name : List ℕ) → (q ≡ source → ⊥) → Commits LeavesSource q name
  away q name off = record {
    make = ((λ e. e, λ e. e), tt);
    lock = ((λ e. e, λ e. e), tt);
    list = ((λ e. e, λ e. e), tt);
    clear = λ temp is. ((λ e. e, off), tt);
    read = ((λ e. e, λ e. e), tt);
    create = λ temp bytes. ((off, λ e. e), tt);
    sync_file = λ temp. ((λ e. e, λ e. e), tt);
    rename = λ temp. ((off, off), tt);
    sync = ((λ e. e, λ e. e), tt);
    unlock = ((λ e. e, λ e. e), off);
  }

  begins_away : (name : List ℕ) → Contains (destinations_of job) name → Begins LeavesSource run (Folder path name) mail
  begins_away name c = record {
    text = away (Folder path name) _ off;
    context = away mail _ (λ e. cc (e));
    give = λ h number pair others. ((off, λ e. e), tt);
    drop = λ x. ((λ e. e, off), tt);
  }
    where
      off : Folder path name ≡ source → ⊥
      off e = destinations_other job name c (cc (e))

  asks_away : (name : List ℕ) → Contains (destinations_of job) name → AsksOnly LeavesSource (lifted (of_plan name) (made_begun run (Folder path name) mail name))
  asks_away name c = asks_lifted LeavesSource (of_plan name) (made_begun run (Folder path name) mail name) (asks_made_begun LeavesSource run (Folder path name) mail (begins_away name c) name)

  -- all of them, beside facts that last
  module _ (F : List Deed → Type 0) (keeps : KeptBy LeavesSource F) where
    abbrev pub EndOf : Result Unit CommandFault → List Deed → Hand → Type 0
    EndOf (Ok u) later j = Clean run later j
    EndOf (Err e) later j = Shows e later

    abbrev pub Gathers : Outcome Gathered
    Gathers later j g = AreReady g.opened later × F later × EndOf g.end later j

    pub gathered_comes : (names : List (List ℕ)) → ((n : List ℕ) → Contains names n → Contains (destinations_of job) n) → (before : List Opened) (own : List Deed) (h : Hand) → Clean run own h → IsLeftSafe mail own → AreReady before own → F own
        → Comes own h (all_begun run path names before) Gathers
    unfolding all_begun
    gathered_comes [] among before own h clean safe ready f = comes_to own h (gathered before (Ok tt)) Gathers (ready, f, clean)
    gathered_comes (n ∷ ns) among before own h clean safe ready f =
        comes_bind own h (plan n (among n (first_there n ns))) (λ r. after_one before r (λ so_far. all_begun run path ns so_far)) (λ later j r. (AreReady before later × F later) × So (Targets n (among n (first_there n ns))) later j r) Gathers
        (comes_framed LeavesSource (λ later. AreReady before later × F later) (λ now_ s a leaves g. (all_ready_kept before now_ s a tt g.0, keeps now_ s a leaves g.1)) own h (plan n (among n (first_there n ns))) (So (Targets n (among n (first_there n ns))))
        (asks_away n (among n (first_there n ns))) (ready, f) (target_comes n (among n (first_there n ns)) own h clean safe))
        (go (λ o later j q. gathered_comes ns (λ m d. among m (later_there n ns m d)) (before ++ o ∷ []) later j q.1.0.0 q.1.0.1 (ready_behind before o later q.0.0 q.1.1) q.0.1))
      where
        go : ((o : Opened) (later : List Deed) (j : Hand) → (AreReady before later × F later) × Targets n (among n (first_there n ns)) later j o → Comes later j (all_begun run path ns (before ++ o ∷ [])) Gathers)
            → (later : List Deed) (j : Hand) (r : Result Opened CommandFault) → (AreReady before later × F later) × So (Targets n (among n (first_there n ns))) later j r
            → Comes later j (after_one before r (λ so_far. all_begun run path ns so_far)) Gathers
        go next later j (Ok o) q = next o later j q
        go next later j (Err e) q = comes_to later j (gathered before (Err e)) Gathers (q.0.0, q.0.1, q.1)
