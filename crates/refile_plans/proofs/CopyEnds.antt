-- How the copies of a message to other folders end, and what shows it.
use Rattle.std.proofs.Common.{◌≡◌, ◌<◌, ◌≤◌, ◌^◌, ◌++◌, ◌∷◌, [], ℕ, List, Some, Result, Ok, inl, inr, sym, subst, arith}
use Rattle.std.specs.Prelude.{Contains}
use Rattle.folder_files.specs.Deeds.{Deed, WasDone, on}
use Rattle.folder_files.specs.declared.place.Place.{Place}
use Rattle.folder_files.specs.declared.place.Place.TheVariants.{Folder}
use Rattle.folder_files.specs.declared.step.Step.TheVariants as step
use Rattle.file_plans.specs.Plan.{Hand, Return, lifted}
use Rattle.file_plans.proofs.Framing.{AnyStep}
use Rattle.step_plans.specs.declared.command_fault.CommandFault.{CommandFault}
use Rattle.step_plans.specs.declared.fault.PlanFault.{PlanFault}
use Rattle.step_plans.specs.declared.fault.PlanFault.TheVariants as plan
use Rattle.step_plans.proofs.Coming.{Comes, comes_lifted, comes_then, comes_to}
use Rattle.step_plans.proofs.Going.{Outcome}
use Rattle.step_plans.proofs.Lasting.{KeptBy}
use Rattle.message_puts.specs.Putting.{message_stored}
use Rattle.message_puts.specs.Stored.{HasMetAt}
use Rattle.message_puts.proofs.PutPledged.{AsksPut}
use Rattle.message_puts.proofs.StoredPledged.{stored_keeps}
use Rattle.command_stages.specs.Endings.{of_plan}
use Rattle.message_moves.specs.Copying.{copied_to, copied_to_all, highest_of}
use Rattle.message_moves.specs.declared.destination.Destination.{Destination}
use Rattle.opening_plans.proofs.CleanRuns.{Clean}
use Rattle.opening_plans.proofs.NamesKept.{LeavesNames}
use Rattle.opening_plans.proofs.PutEnds.{PutShown, ShowsPut, StoredAs, stored_comes}
use Rattle.opening_plans.proofs.WorkEnds.{EndsWith, folder_shows}
use Rattle.refile_plans.specs.RefileAnswers.{ShowsRefile, none_left, target_answers}
use Rattle.refile_plans.specs.RefilePledge.{destinations_of}
use Rattle.refile_plans.specs.declared.job.RefileJob.{RefileJob}
use Rattle.refile_plans.proofs.FolderNames.{destinations_other}

module _ (run : ℕ) (few : run < 2 ^ 128) (path : List ℕ) (job : RefileJob) where
  abbrev source : Place
  source = Folder path job.source

  abbrev Shows : CommandFault → List Deed → Type 0
  Shows e own = ShowsRefile run path job e own

  -- how a plan ends: with this, or by what shows its fault
  abbrev pub So : {A : Type 0} → Outcome A → Outcome (Result A CommandFault)
  So P later j r = EndsWith Shows P later j r

  -- a destination that was begun: its lock was taken, and where its highest number is the last one the run has met a message there
  pub record IsTarget (d : Destination) (own : List Deed) : Type 0 where
    pub is_one : Contains (destinations_of job) d.folder
    pub place : d.place ≡ Folder path d.folder
    pub lock : WasDone (step.Lock (Folder path d.folder)) own
    pub low : highest_of d.highest ≤ 999999
    pub topped : highest_of d.highest ≡ 999999 → HasMetAt (Folder path d.folder) 999999 own

  abbrev pub AreTargets : List Destination → List Deed → Type 0
  AreTargets [] own = Unit {0}
  AreTargets (d ∷ ds) own = IsTarget d own × AreTargets ds own

  target_kept : (d : Destination) → KeptBy AnyStep (IsTarget d)
  target_kept d own s a any f = record { is_one = f.is_one; place = f.place; lock = on f.lock; low = f.low; topped = λ e. on (f.topped e) }

  pub targets_kept : (ds : List Destination) → KeptBy AnyStep (AreTargets ds)
  targets_kept [] own s a any f = tt
  targets_kept (d ∷ ds) own s a any f = (target_kept d own s a any f.0, targets_kept ds own s a any f.1)

  targets_behind : (ds : List Destination) (d : Destination) (own : List Deed) → AreTargets ds own → IsTarget d own → AreTargets (ds ++ d ∷ []) own
  targets_behind [] d own all one = (one, tt)
  targets_behind (e ∷ ds) d own all one = (all.0, targets_behind ds d own all.1 one)

  -- what shows a fault of a put shows it here
  put_shown : (folder : List ℕ) → Contains (destinations_of job) folder → (e : PlanFault) (own : List Deed) → ShowsPut run few path folder target_answers e own → Shows (of_plan folder e) own
  put_shown folder c plan.Faulted own g = absurd g
  put_shown folder c (plan.Locked q) own g = inr (inl (record { target = folder; is_one = c; shows = inl (folder_shows run few path folder target_answers (plan.Locked q) own g) }))
  put_shown folder c (plan.Meddled q x) own g = inr (inl (record { target = folder; is_one = c; shows = inl (folder_shows run few path folder target_answers (plan.Meddled q x) own g) }))
  put_shown folder c plan.Full own g = inr (inr (none_left c g))
  put_shown folder c (plan.Absent q) own g = inr (inl (record { target = folder; is_one = c; shows = inl (folder_shows run few path folder target_answers (plan.Absent q) own g) }))
  put_shown folder c (plan.TooLarge l) own g = inr (inl (record { target = folder; is_one = c; shows = inl (folder_shows run few path folder target_answers (plan.TooLarge l) own g) }))
  put_shown folder c plan.Memory own g = inr (inl (record { target = folder; is_one = c; shows = inl tt }))

  -- puts in a destination, for any fact; and for names of the source
  asks_any : (q : Place) → AsksPut AnyStep q
  asks_any q = record { create = λ temp bytes. tt; sync = λ temp. tt; link = λ temp number. tt; unlink = λ temp. tt }

  asks_elsewhere : (folder : List ℕ) → Contains (destinations_of job) folder → AsksPut (LeavesNames source) (Folder path folder)
  asks_elsewhere folder c = record {
    create = λ temp bytes. (off, λ e. e);
    sync = λ temp. (λ e. e, λ e. e);
    link = λ temp number. (off, λ e. e);
    unlink = λ temp. (λ e. e, off);
  }
    where
      off : Folder path folder ≡ source → ⊥
      off e = destinations_other job folder c (cc (e))

  -- the message is stored in a destination
  stored_there : (bytes folder : List ℕ) → Contains (destinations_of job) folder → (q : Place) → q ≡ Folder path folder → (top : ℕ) → top ≤ 999999 → (own : List Deed) (h : Hand) → (top ≡ 999999 → HasMetAt (Folder path folder) 999999 own) → Clean run own h
      → WasDone (step.Lock (Folder path folder)) own → Comes own h (lifted (of_plan folder) (message_stored run q top bytes)) (So (StoredAs run few path folder target_answers bytes own))
  stored_there bytes folder c q is top low own h topped clean lock =
      subst (λ z. Comes own h (lifted (of_plan folder) (message_stored run z top bytes)) (So (StoredAs run few path folder target_answers bytes own))) (sym is)
      (comes_lifted own h (of_plan folder) (message_stored run (Folder path folder) top bytes) (PutShown run few path folder target_answers (StoredAs run few path folder target_answers bytes own)) (So (StoredAs run few path folder target_answers bytes own))
      (stored_comes run few path folder target_answers bytes top low own h topped clean lock) (λ later j m g. g) (λ later j e g. put_shown folder c e later g))

  -- beside facts that steps keep which leave the names of the source
  module _ (F : List Deed → Type 0) (keeps : KeptBy (LeavesNames source) F) (bytes : List ℕ) where
    abbrev One : Destination → List Destination → List Destination → Outcome Destination
    One d before others later j e = Clean run later j × IsTarget e later × AreTargets before later × AreTargets others later × F later

    pub one_comes : (d : Destination) (before others : List Destination) (own : List Deed) (h : Hand) → Clean run own h → IsTarget d own → AreTargets before own → AreTargets others own → F own → Comes own h (copied_to run bytes d) (So (One d before others))
    unfolding copied_to
    one_comes d before others own h clean t all rest f =
        comes_then own h (lifted (of_plan d.folder) (message_stored run d.place (highest_of d.highest) bytes)) (λ number. Return (Ok (record { folder = d.folder; place = d.place; highest = Some number }))) (So (StoredAs run few path d.folder target_answers bytes own)) (So (One d before others))
        (stored_there bytes d.folder t.is_one d.place t.place (highest_of d.highest) t.low own h t.topped clean t.lock)
        (λ later j m s. comes_to later j (Ok (record { folder = d.folder; place = d.place; highest = Some m })) (So (One d before others)) (
          s.clean,
          record {
            is_one = t.is_one;
            place = t.place;
            lock = stored_keeps AnyStep (WasDone (step.Lock (Folder path d.folder))) (λ o st a any g. on g) run (Folder path d.folder) (asks_any (Folder path d.folder)) tt bytes own m later s.taken t.lock;
            low = (let ok = s.number in omega (arith, ok.1));
            topped = λ last_. subst (λ n. HasMetAt (Folder path d.folder) n later) last_ s.met;
          },
          stored_keeps AnyStep (AreTargets before) (targets_kept before) run (Folder path d.folder) (asks_any (Folder path d.folder)) tt bytes own m later s.taken all,
          stored_keeps AnyStep (AreTargets others) (targets_kept others) run (Folder path d.folder) (asks_any (Folder path d.folder)) tt bytes own m later s.taken rest,
          stored_keeps (LeavesNames source) F keeps run (Folder path d.folder) (asks_elsewhere d.folder t.is_one) (λ e. e, λ e. e) bytes own m later s.taken f,
        ))
        (λ later j e g. g)

    abbrev pub All : Outcome (List Destination)
    All later j es = Clean run later j × AreTargets es later × F later

    pub all_comes : (ds before : List Destination) (own : List Deed) (h : Hand) → Clean run own h → AreTargets ds own → AreTargets before own → F own → Comes own h (copied_to_all run bytes ds before) (So All)
    unfolding copied_to_all
    all_comes [] before own h clean ts all f = comes_to own h (Ok before) (So All) (clean, all, f)
    all_comes (d ∷ ds) before own h clean ts all f =
        comes_then own h (copied_to run bytes d) (λ one. copied_to_all run bytes ds (before ++ one ∷ [])) (So (One d before ds)) (So All) (one_comes d before ds own h clean ts.0 all ts.1 f)
        (λ later j e q. all_comes ds (before ++ e ∷ []) later j q.0 q.3 (targets_behind before e later q.2 q.1) q.4)
        (λ later j e q. q)
