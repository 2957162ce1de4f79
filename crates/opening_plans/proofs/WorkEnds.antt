-- How a command ends that begins a folder, and what shows it.
use Rattle.std.proofs.Common.{◌<◌, ◌^◌, ◌++◌, ◌∷◌, [], ℕ, List, Result, Ok, Err, inr, refl}
use Rattle.folder_files.specs.Deeds as deeds
use Rattle.folder_files.specs.Deeds.{WasDone, did}
use Rattle.folder_files.specs.declared.place.Place.{Place}
use Rattle.folder_files.specs.declared.refusal.Which.{Which}
use Rattle.folder_files.specs.declared.place.Place.TheVariants.{Folder, Mail}
use Rattle.folder_files.specs.declared.step.Answer.{Answer}
use Rattle.folder_files.specs.declared.step.Step.TheVariants as step
use Rattle.file_plans.specs.Asking.{attempt_unlock, unlock}
use Rattle.file_plans.specs.Plan.{Hand, Plan, Return, after, ask, attempt, bind, lifted, ◌>>=◌}
use Rattle.file_plans.specs.Rules.{Keeps}
use Rattle.file_plans.specs.Runs.{Deed, Did}
use Rattle.file_plans.proofs.Acting.{acts, acts_append}
use Rattle.file_plans.proofs.Framing.{AnyStep, asks_any}
use Rattle.file_plans.proofs.Keeping.{keeps_bind}
use Rattle.step_plans.specs.ContextCommit.{commit_context}
use Rattle.step_plans.specs.PlanFaults.{Planned}
use Rattle.step_plans.specs.declared.command_fault.CommandFault.{CommandFault}
use Rattle.step_plans.specs.declared.command_fault.CommandFault.TheVariants as command
use Rattle.step_plans.specs.declared.fault.PlanFault.{PlanFault}
use Rattle.step_plans.specs.declared.fault.PlanFault.TheVariants as fault
use Rattle.step_plans.proofs.Coming.{Comes, NoneFailed, OfActs, anything, comes_clean, comes_framed, comes_keeps, comes_lifted, comes_more, comes_then, comes_to}
use Rattle.step_plans.proofs.Going.{Outcome}
use Rattle.step_plans.proofs.Lasting.{KeptBy}
use Rattle.command_stages.specs.Current.{current_change, made_current}
use Rattle.command_stages.specs.Endings.{of_plan}
use Rattle.opening_plans.specs.Ending.{ended, finished, given_up}
use Rattle.opening_plans.specs.Endings.{Answering, IsEndedBy, ShowsEnd, ShowsInFolder, at_once, let_go}
use Rattle.opening_plans.specs.Opening.{Opened, begun}
use Rattle.opening_plans.proofs.SequencesEnd.{Leaves, Left, commit_shows}
use Rattle.opening_plans.proofs.SettledEnds.{Shown}

-- how a command's plan ends: with this, or by what shows its fault
abbrev pub EndsWith : {A : Type 0} → (CommandFault → List deeds.Deed → Type 0) → Outcome A → Outcome (Result A CommandFault)
EndsWith S P later j (Ok a) = P later j a
EndsWith S P later j (Err e) = S e later

-- so a command ends that begins a folder: the one fact holds however it ends, the other where it is done
abbrev pub EndsBeside : (CommandFault → List deeds.Deed → Type 0) → (List deeds.Deed → Type 0) → (List deeds.Deed → Type 0) → List Deed → Hand → Result Unit CommandFault → Type 0
EndsBeside S F D past h (Ok u) = F (acts past) × D (acts past)
EndsBeside S F D past h (Err e) = IsEndedBy (λ k own. F own × S k own) e (acts past)

-- facts that each step keeps
abbrev any_fact : List deeds.Deed → Type 0
any_fact own = Unit {0}

module _ (run : ℕ) (few : run < 2 ^ 128) (path folder : List ℕ) (Answers : Answering) where
  abbrev p : Place
  p = Folder path folder

  abbrev mail : Place
  mail = Mail path

  -- a command's fault, by that of a plan on the folder
  pub folder_shows : (e : PlanFault) (own : List deeds.Deed) → ShowsInFolder run path folder Answers e own → ShowsEnd run path folder Answers (of_plan folder e) own
  folder_shows fault.Faulted own f = f
  folder_shows (fault.Locked q) own f = f
  folder_shows (fault.Meddled q x) own f = f
  folder_shows fault.Full own f = f
  folder_shows (fault.Absent q) own f = (refl, f.1)
  folder_shows (fault.TooLarge l) own f = (refl, f)
  folder_shows fault.Memory own f = f

  -- how a command's plan ends: with this, or by what shows its fault
  abbrev pub Ends : {A : Type 0} → Outcome A → Outcome (Result A CommandFault)
  Ends P later j r = EndsWith (ShowsEnd run path folder Answers) P later j r

  pub comes_shown : {A : Type 0} (own : List deeds.Deed) (h : Hand) (q : Planned A) (P : Outcome A) → Comes own h q (Shown run path folder Answers P) → Comes own h (lifted (of_plan folder) q) (Ends P)
  comes_shown own h q P f = comes_lifted own h (of_plan folder) q (Shown run path folder Answers P) (Ends P) f (λ later j a g. g) (λ later j e g. folder_shows e later g)

  -- the folder becomes the current one
  pub current_comes : (own : List deeds.Deed) (h : Hand) → Left run few path folder Answers own h → Comes own h (made_current run path folder) (Ends (Leaves run few path folder Answers))
  unfolding made_current
  current_comes own h left =
      comes_then own h (lifted (of_plan folder) (commit_context run mail (current_change folder))) (λ done. Return (Ok tt)) (Ends (Leaves run few path folder Answers)) (Ends (Leaves run few path folder Answers))
      (comes_shown own h (commit_context run mail (current_change folder)) (Leaves run few path folder Answers)
      (commit_shows run few path folder Answers any_fact (λ now_ s a any f. tt) (current_change folder) (λ l later f is. inr (inr (inr is))) own h tt left))
      (λ later j u f. comes_to later j (Ok tt) (Ends (Leaves run few path folder Answers)) f) (λ later j e f. f)

  -- beside a fact that lasts
  module _ (D : List deeds.Deed → Type 0) (lasts : KeptBy AnyStep D) where
    pub shown_beside : {A : Type 0} (own : List deeds.Deed) (h : Hand) (q : Planned A) (P : Outcome A) → D own → Comes own h q (Shown run path folder Answers P)
        → Comes own h q (Shown run path folder Answers (λ later j a. P later j a × D later))
    shown_beside {A = A} own h q P d f =
        comes_more own h q (λ later j r. D later × Shown run path folder Answers P later j r) (Shown run path folder Answers (λ later j a. P later j a × D later)) go
        (comes_framed AnyStep D lasts own h q (Shown run path folder Answers P) (asks_any q) d f)
      where
        go : (later : List deeds.Deed) (j : Hand) (r : Result A PlanFault) → D later × Shown run path folder Answers P later j r → Shown run path folder Answers (λ end i a. P end i a × D end) later j r
        go later j (Ok a) s = (s.1, s.0)
        go later j (Err e) s = s.1

    pub current_beside : (own : List deeds.Deed) (h : Hand) → Left run few path folder Answers own h → D own → Comes own h (made_current run path folder) (Ends (λ later j u. D later))
    current_beside own h left d =
        comes_more own h (made_current run path folder) (λ later j r. D later × Ends (Leaves run few path folder Answers) later j r) (Ends (λ later j u. D later)) go
        (comes_framed AnyStep D lasts own h (made_current run path folder) (Ends (Leaves run few path folder Answers)) (asks_any (made_current run path folder)) d (current_comes own h left))
      where
        go : (later : List deeds.Deed) (j : Hand) (r : Result Unit CommandFault) → D later × Ends (Leaves run few path folder Answers) later j r → Ends (λ end i u. D end) later j r
        go later j (Ok u) s = s.0
        go later j (Err e) s = s.1

  -- what shows a fault, beside a fact
  abbrev pub ShowsSo : (List deeds.Deed → Type 0) → CommandFault → List deeds.Deed → Type 0
  ShowsSo F e own = F own × ShowsEnd run path folder Answers e own

  -- so a command ends that begins a folder: the one fact holds however it ends, the other where it is done
  abbrev pub EndsSo : (List deeds.Deed → Type 0) → (List deeds.Deed → Type 0) → List Deed → Hand → Result Unit CommandFault → Type 0
  EndsSo F D past h r = EndsBeside (ShowsEnd run path folder Answers) F D past h r

  -- the whole: a plan begins the folder, the work on it is done, and its lock falls; beside facts that last
  module _ (S : CommandFault → List deeds.Deed → Type 0) (never : (which : Which) (own : List deeds.Deed) → S (command.Faulted which) own → ⊥) (F D : List deeds.Deed → Type 0) (keeps : KeptBy AnyStep F) (lasts : KeptBy AnyStep D)
      (State : Outcome Opened) (begin : Plan (Result Opened CommandFault)) (act : Opened → Plan (Result Unit CommandFault))
      (locked : (own : List deeds.Deed) (h : Hand) (o : Opened) → State own h o → WasDone (step.Lock p) own)
      (works : (own : List deeds.Deed) (h : Hand) (o : Opened) → State own h o → Comes own h (act o) (EndsWith S (λ later j u. D later))) where
    abbrev Beside : CommandFault → List deeds.Deed → Type 0
    Beside e own = F own × S e own

    -- at the end of the work the lock was taken and no step has failed
    abbrev AtEnd : Outcome (Result Unit CommandFault)
    AtEnd later j r = NoneFailed later × ((F later × WasDone (step.Lock p) later) × EndsWith S (λ end i u. D end) later j r)

    unlocked : (past : List Deed) (a : Answer) → F (acts past) → D (acts past) → F (acts (past ++ Did (step.Unlock p) a ∷ [])) × D (acts (past ++ Did (step.Unlock p) a ∷ []))
    unlocked past a f d = rw (acts_append [] past (Did (step.Unlock p) a ∷ [])) (keeps (acts past) (step.Unlock p) a tt f, lasts (acts past) (step.Unlock p) a tt d)

    done_keeps : (past : List Deed) (h : Hand) → F (acts past) → D (acts past) → Keeps anything past h (finished p) (EndsBeside S F D)
    unfolding Keeps finished unlock ask lifted bind ◌>>=◌
    done_keeps past h f d = (tt, tt, tt, λ a row live. (tt, unlocked past a f d))

    given_up_keeps : (past : List Deed) (h : Hand) (e : CommandFault) → ((a : Answer) → IsEndedBy Beside e (did (step.Unlock p) a ∷ acts past)) → Keeps anything past h (given_up p e) (EndsBeside S F D)
    unfolding Keeps given_up attempt_unlock attempt lifted bind ◌>>=◌
    given_up_keeps past h e f = (tt, tt, λ a row. (tt, rw (acts_append [] past (Did (step.Unlock p) a ∷ [])) (f a)))

    at_end : (past : List Deed) (h : Hand) (r : Result Unit CommandFault) → AtEnd (acts past) h r → Keeps anything past h (ended p r) (EndsBeside S F D)
    unfolding Keeps
    at_end past h (Ok u) q = done_keeps past h q.1.0.0 q.1.1
    at_end past h (Err (command.Refused r)) q = given_up_keeps past h (command.Refused r) (λ a. let_go (q.1.0.0, q.1.1) q.0 q.1.0.1)
    at_end past h (Err (command.Faulted which)) q = absurd (never which (acts past) q.1.1)
    at_end past h (Err (command.Locked place)) q = given_up_keeps past h (command.Locked place) (λ a. let_go (q.1.0.0, q.1.1) q.0 q.1.0.1)
    at_end past h (Err (command.Meddled place x)) q = (tt, ((q.1.0.0, q.1.1), q.0))
    at_end past h (Err command.Memory) q = (tt, tt)

    -- where the folder isn't begun the command ends at once
    abbrev AtBegin : Outcome (Result Opened CommandFault)
    AtBegin later j r = NoneFailed later × (F later × EndsWith S State later j r)

    stopped : (e : CommandFault) (own : List deeds.Deed) → NoneFailed own → F own → S e own → IsEndedBy Beside e own
    stopped (command.Refused r) own clean f s = at_once (f, s) clean
    stopped (command.Faulted which) own clean f s = never which own s
    stopped (command.Locked place) own clean f s = at_once (f, s) clean
    stopped (command.Meddled place x) own clean f s = ((f, s), clean)
    stopped command.Memory own clean f s = tt

    stopped_keeps : (past : List Deed) (h : Hand) (e : CommandFault) → IsEndedBy Beside e (acts past) → Keeps anything past h (Return (Err e)) (EndsBeside S F D)
    unfolding Keeps
    stopped_keeps past h e f = (tt, f)

    work_clean : (own : List deeds.Deed) (h : Hand) (o : Opened) → State own h o → NoneFailed own → F own → Comes own h (act o) AtEnd
    work_clean own h o s clean f =
        comes_clean own h (act o) (λ later j r. (F later × WasDone (step.Lock p) later) × EndsWith S (λ end i u. D end) later j r) clean
        (comes_framed AnyStep (λ later. F later × WasDone (step.Lock p) later) (λ later t a any g. (keeps later t a any g.0, deeds.on g.1)) own h (act o) (EndsWith S (λ end i u. D end)) (asks_any (act o)) (f, locked own h o s) (works own h o s))

    pub work_ends : (past : List Deed) (h : Hand) → NoneFailed (acts past) → F (acts past) → Comes (acts past) h begin (EndsWith S State) → Keeps anything past h (begin >>= (λ o. bind (act o) (ended p))) (EndsBeside S F D)
    unfolding ◌>>=◌
    work_ends past h clean f begins =
        keeps_bind anything past h begin (after (λ o. bind (act o) (ended p))) (OfActs AtBegin) (EndsBeside S F D)
        (comes_keeps past (acts past) h begin AtBegin refl
        (comes_clean (acts past) h begin (λ later j r. F later × EndsWith S State later j r) clean (comes_framed AnyStep F keeps (acts past) h begin (EndsWith S State) (asks_any begin) f begins)))
        go
      where
        go : (later : List Deed) (j : Hand) (r : Result Opened CommandFault) → OfActs AtBegin later j r → Keeps anything later j (after (λ o. bind (act o) (ended p)) r) (EndsBeside S F D)
        go later j (Ok o) q =
            keeps_bind anything later j (act o) (ended p) (OfActs AtEnd) (EndsBeside S F D) (comes_keeps later (acts later) j (act o) AtEnd refl (work_clean (acts later) j o q.1.1 q.0 q.1.0))
            (λ last i r s. at_end last i r s)
        go later j (Err e) q = stopped_keeps later j e (stopped e (acts later) q.0 q.1.0 q.1.1)

  never_faulted : (which : Which) (own : List deeds.Deed) → ShowsEnd run path folder Answers (command.Faulted which) own → ⊥
  never_faulted which own s = s

  -- a folder that is there
  pub begun_ends : (F D : List deeds.Deed → Type 0) → KeptBy AnyStep F → KeptBy AnyStep D → (State : Outcome Opened) (act : Opened → Plan (Result Unit CommandFault))
      → ((own : List deeds.Deed) (h : Hand) (o : Opened) → State own h o → WasDone (step.Lock p) own) → ((own : List deeds.Deed) (h : Hand) (o : Opened) → State own h o → Comes own h (act o) (Ends (λ later j u. D later)))
      → (past : List Deed) (h : Hand) → NoneFailed (acts past) → F (acts past) → Comes (acts past) h (lifted (of_plan folder) (begun run p mail folder)) (Ends State)
      → Keeps anything past h (lifted (of_plan folder) (begun run p mail folder) >>= (λ o. bind (act o) (ended p))) (EndsSo F D)
  begun_ends F D keeps lasts State act locked works past h clean f begins =
      work_ends (ShowsEnd run path folder Answers) never_faulted F D keeps lasts State (lifted (of_plan folder) (begun run p mail folder)) act locked works past h clean f begins
