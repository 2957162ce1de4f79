-- Where a command makes its folder and begins it: what shows its end, and what its work may rely on.
use Rattle.std.proofs.Common.{◌≡◌, ◌≢◌, ◌⊎◌, inl, inr, ◌<◌, ◌^◌, ◌∷◌, ℕ, List, Result, Ok, Err, refl, ap}
use Rattle.folder_files.specs.Commands.{Manner}
use Rattle.folder_files.specs.Deeds.{Deed, Once, did, now, on}
use Rattle.folder_files.specs.declared.place.Place.{Place}
use Rattle.folder_files.specs.declared.place.Place.TheVariants.{Folder, Mail}
use Rattle.folder_files.specs.declared.step.Answer.{Answer}
use Rattle.folder_files.specs.declared.step.Answer.TheVariants as answer
use Rattle.folder_files.specs.declared.step.Step.{Step}
use Rattle.folder_files.specs.declared.step.Step.TheVariants as step
use Rattle.file_plans.specs.Plan.{Ask, Hand, Hear, Note, Plan, Recall, Return, Say, Try, bind, lifted}
use Rattle.file_plans.proofs.Framing.{AnyStep, asks_any}
use Rattle.step_plans.specs.PlanFaults.{of_stop}
use Rattle.step_plans.specs.declared.command_fault.CommandFault.{CommandFault}
use Rattle.step_plans.specs.declared.command_fault.CommandFault.TheVariants as command
use Rattle.step_plans.specs.declared.fault.PlanFault.{PlanFault}
use Rattle.step_plans.specs.declared.fault.PlanFault.TheVariants as fault
use Rattle.step_plans.specs.Locking.{lock_name}
use Rattle.step_plans.proofs.Coming.{Comes, comes_framed, comes_lifted, comes_make}
use Rattle.step_plans.proofs.Going.{Outcome}
use Rattle.command_stages.specs.Endings.{of_plan}
use Rattle.opening_plans.specs.Endings.{Answering, IsGoneOnceMade, PutsNone, ShowsEnd, ShowsInFolder}
use Rattle.opening_plans.specs.Making.{made_begun, once_made}
use Rattle.opening_plans.specs.Opening.{Opened, begun}
use Rattle.opening_plans.proofs.BegunEnds.{IsBegunSo, begun_comes}
use Rattle.opening_plans.proofs.BeginState.{HasState, TakesNone, begin_state}
use Rattle.opening_plans.proofs.CleanRuns.{Clean, clean_more}
use Rattle.opening_plans.proofs.NamesKept.{putting, taking}
use Rattle.opening_plans.proofs.SettledEnds.{Shown}
use Rattle.opening_plans.proofs.WorkEnds.{Ends, EndsWith}
use Rattle.opening_plans.proofs.WorkPledged.{LetsBegin}

-- a plan with its errors as one layer has them, and plainly, comes with its errors as another has them
comes_relifted : {A E F G : Type 0} (own : List Deed) (h : Hand) (f : E → F) (g : E → G) (p : Plan (Result A E)) (P : Outcome (Result A F)) (S : Outcome (Result A E)) (Q : Outcome (Result A G))
    → Comes own h (lifted f p) P → Comes own h p S → ((later : List Deed) (j : Hand) (a : A) → P later j (Ok a) → Q later j (Ok a)) → ((later : List Deed) (j : Hand) (e : E) → P later j (Err (f e)) → S later j (Err e) → Q later j (Err (g e)))
    → Comes own h (lifted g p) Q
unfolding Comes lifted bind
comes_relifted own h f g (Return (Ok a)) P S Q x y okay stop = okay own h a x
comes_relifted own h f g (Return (Err e)) P S Q x y okay stop = stop own h e x y
comes_relifted own h f g (Ask s next) P S Q x y okay stop = λ a row live. comes_relifted (did s a ∷ own) h f g (next a) P S Q (x a row live) (y a row live) okay stop
comes_relifted own h f g (Try s next) P S Q x y okay stop = absurd x
comes_relifted own h f g (Say piece next) P S Q x y okay stop = comes_relifted own h f g next P S Q x y okay stop
comes_relifted own h f g (Hear most next) P S Q x y okay stop = λ piece short. comes_relifted own h f g (next piece) P S Q (x piece short) (y piece short) okay stop
comes_relifted own h f g (Recall next) P S Q x y okay stop = comes_relifted own h f g (next h) P S Q x y okay stop
comes_relifted own h f g (Note j next) P S Q x y okay stop = comes_relifted own j f g next P S Q x y okay stop

module _ (run : ℕ) (few : run < 2 ^ 128) (path folder : List ℕ) (Answers : Answering) (manner : Manner) (may_tell : List Deed → List ℕ → Type 0) (may_step : List Deed → Step → Type 0)
    (lets : LetsBegin path folder manner may_step) where
  abbrev p : Place
  p = Folder path folder

  abbrev mail : Place
  mail = Mail path

  -- what shows a fault of a command that makes its folder
  abbrev pub ShowsMade : CommandFault → List Deed → Type 0
  ShowsMade e own = ShowsEnd run path folder Answers e own ⊎ IsGoneOnceMade p e own

  abbrev States : Outcome Opened
  States later j o = HasState run few path folder Answers manner may_tell may_step lets later j o

  abbrev HasMade : List Deed → Type 0
  HasMade own = Once (λ d older. d.step ≡ step.MakeFolder p) own

  -- as a plan's fault
  abbrev Makes : Outcome (Result Opened PlanFault)
  Makes later j (Ok o) = States later j o
  Makes later j (Err e) = ShowsMade (of_plan folder e) later

  abbrev Begun : Outcome Opened
  Begun later j o = IsBegunSo run few path folder Answers o later j

  abbrev ShownSo : PlanFault → List Deed → Type 0
  ShownSo e own = ShowsInFolder run path folder Answers e own

  -- a folder that isn't there any more
  as_made : (later : List Deed) (e : PlanFault) → ShowsEnd run path folder Answers (of_plan folder e) later → HasMade later → ShownSo e later → ShowsMade (of_plan folder (once_made e)) later
  as_made later fault.Faulted shows made plain = inl shows
  as_made later (fault.Locked q) shows made plain = inl shows
  as_made later (fault.Meddled q x) shows made plain = inl shows
  as_made later fault.Full shows made plain = inl shows
  as_made later (fault.Absent q) shows made plain = inr (record { is = ap (λ z. command.Meddled z lock_name) plain.0; gone = plain.1; made = made })
  as_made later (fault.TooLarge l) shows made plain = inl shows
  as_made later fault.Memory shows made plain = inl shows

  begins : (own : List Deed) (h : Hand) (a : Answer) → a ≢ answer.Failed → Clean run own h → PutsNone mail own → TakesNone run few path folder Answers manner may_tell may_step lets own
      → Comes (did (step.MakeFolder p) a ∷ own) h (lifted once_made (begun run p mail folder)) Makes
  begins own h a live clean none takes =
      comes_relifted now_ h (of_plan folder) once_made (begun run p mail folder) (Ends run few path folder Answers States) (λ later j r. HasMade later × Shown run path folder Answers Begun later j r) Makes
      (begin_state run few path folder Answers manner may_tell may_step lets now_ h clean_now none_now takes_now)
      (comes_framed AnyStep HasMade (λ before s b any f. on f) now_ h (begun run p mail folder) (Shown run path folder Answers Begun) (asks_any (begun run p mail folder)) (now refl)
      (begun_comes run few path folder Answers now_ h clean_now none_now))
      (λ later j o q. q)
      (λ later j e q s. as_made later e q s.0 s.1)
    where
      now_ : List Deed
      now_ = did (step.MakeFolder p) a ∷ own

      clean_now : Clean run (did (step.MakeFolder p) a ∷ own) h
      clean_now = clean_more run own h (step.MakeFolder p) a live tt clean

      none_now : PutsNone mail (did (step.MakeFolder p) a ∷ own)
      none_now (now w) = putting mail w.0 (step.MakeFolder p) a w.1
      none_now (on z) = none z

      takes_now : TakesNone run few path folder Answers manner may_tell may_step lets (did (step.MakeFolder p) a ∷ own)
      takes_now x n (now t) = taking p x (step.MakeFolder p) a t
      takes_now x n (on z) = takes x n z

  -- after deeds of a run that is clean, that put no name into the mail directory and took no number away
  pub made_state : (own : List Deed) (h : Hand) → Clean run own h → PutsNone mail own → TakesNone run few path folder Answers manner may_tell may_step lets own
      → Comes own h (lifted (of_plan folder) (made_begun run p mail folder)) (EndsWith ShowsMade States)
  unfolding made_begun
  made_state own h clean none takes =
      comes_lifted own h (of_plan folder) (made_begun run p mail folder) Makes (EndsWith ShowsMade States)
      (comes_make own h of_stop Makes p (λ made. lifted once_made (begun run p mail folder)) (begins own h answer.Done (λ e. cc (e)) clean none takes) (begins own h answer.Exists (λ e. cc (e)) clean none takes))
      (λ later j o q. q)
      (λ later j e q. q)
