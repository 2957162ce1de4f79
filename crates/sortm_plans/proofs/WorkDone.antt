-- What stands where the work on a folder that was begun came to its end stands once the folder's lock fell.
use Rattle.std.proofs.Common.{◌++◌, ◌∷◌, [], ℕ, List, Result, Ok, Err, refl}
use Rattle.folder_files.specs.Deeds.{Deed}
use Rattle.folder_files.specs.declared.place.Place.{Place}
use Rattle.folder_files.specs.declared.place.Place.TheVariants.{Folder, Mail}
use Rattle.folder_files.specs.declared.step.Answer.{Answer}
use Rattle.folder_files.specs.declared.step.Step.TheVariants as step
use Rattle.file_plans.specs.Asking.{attempt_unlock, unlock}
use Rattle.file_plans.specs.Plan.{Hand, Plan, Return, after, ask, attempt, bind, lifted, ◌>>=◌}
use Rattle.file_plans.specs.Rules.{IfOkay, Keeps}
use Rattle.file_plans.specs.Runs.{Deed as Done, Did}
use Rattle.file_plans.proofs.Acting.{acts, acts_append}
use Rattle.file_plans.proofs.Keeping.{keeps_bind}
use Rattle.step_plans.specs.Pledges.{Pledge}
use Rattle.step_plans.specs.declared.command_fault.CommandFault.{CommandFault}
use Rattle.step_plans.specs.declared.command_fault.CommandFault.TheVariants as fault
use Rattle.step_plans.proofs.Coming.{anything}
use Rattle.step_plans.proofs.Going.{ByActs, Sound, Soundly, goes_keeps, goes_lifted, okay}
use Rattle.step_plans.proofs.Pledged.{Of}
use Rattle.step_plans.proofs.Ruling.{AreNumbered, rules_of}
use Rattle.command_stages.specs.Endings.{of_plan}
use Rattle.opening_plans.specs.Ending.{ended, finished, given_up}
use Rattle.opening_plans.specs.Opening.{Opened, begun}
use Rattle.opening_plans.proofs.EndedKept.{Still, ended_keeps, keeps_more}
use Rattle.opening_plans.proofs.Speaking.{keeps_both}
use Rattle.file_plans.proofs.Framing.{AnyStep}
use Rattle.step_plans.specs.Settled.{AreSettled}
use Rattle.step_plans.proofs.Going.{Goes, Outcome}
use Rattle.step_plans.proofs.Lasting.{KeptBy}

module _ (w : Pledge) (path folder : List ℕ) (F : List Deed → Type 0) (lasts : KeptBy AnyStep F) where
  abbrev p : Place
  p = Folder path folder

  abbrev Has : List Done → Hand → Unit {0} → Type 0
  Has past h u = F (acts past)

  unlocked : (past : List Done) (h : Hand) (a : Answer) → Has past h tt → Has (past ++ Did (step.Unlock p) a ∷ []) h tt
  unlocked past h a f = rw (acts_append [] past (Did (step.Unlock p) a ∷ [])) (lasts (acts past) (step.Unlock p) a tt f)

  -- the lock's fall changes nothing of that
  at_end : (past : List Done) (h : Hand) (r : Result Unit CommandFault) → IfOkay Has past h r → Keeps anything past h (ended p r) (IfOkay Has)
  unfolding Keeps finished given_up unlock ask attempt_unlock attempt lifted bind ◌>>=◌
  at_end past h (Ok u) f = (tt, tt, tt, λ a row live. (tt, unlocked past h a f))
  at_end past h (Err (fault.Refused r)) f = (tt, tt, λ a row. (tt, tt))
  at_end past h (Err (fault.Faulted which)) f = (tt, tt)
  at_end past h (Err (fault.Locked q)) f = (tt, tt, λ a row. (tt, tt))
  at_end past h (Err (fault.Meddled q x)) f = (tt, tt)
  at_end past h (Err fault.Memory) f = (tt, tt)

  ended_so : (own : List Deed) (past : List Done) (h : Hand) (r : Result Unit CommandFault) → AreNumbered w.run h.next (acts past) → IfOkay (Still own) past h r → IfOkay Has past h r → Keeps (rules_of w) past h (ended p r) (IfOkay Has)
  ended_so own past h r n still f =
      keeps_more (rules_of w) past h (ended p r) (λ later j x. IfOkay (Still own) later j x × IfOkay Has later j x) (IfOkay Has) (λ later j x g. g.1)
      (keeps_both (rules_of w) anything past h (ended p r) (IfOkay (Still own)) (IfOkay Has) (ended_keeps w own past h p r n still) (at_end past h r f))

  stops : (later : List Done) (j : Hand) (e : CommandFault) → AreNumbered w.run j.next (acts later) → Keeps (rules_of w) later j (Return (Err e)) (IfOkay Has)
  unfolding Keeps
  stops later j e n = (n, tt)

  -- the folder is begun, and the work on it comes to its end
  module _ (Begun : Outcome Opened) (opened_work : Opened → Plan (Result Unit CommandFault))
      (works : (later : List Deed) (j : Hand) (o : Opened) → Begun later j o → Goes w later j (opened_work o) (okay (Of (λ end. (AreSettled later → AreSettled end) × F end)))) where
    abbrev work : Opened → Plan (Result Unit CommandFault)
    work o = bind (opened_work o) (ended p)

    still_so : (before : List Deed) (last : List Done) (i : Hand) (x : Result Unit CommandFault) → Sound w (acts last) i → okay (Of (λ end. (AreSettled before → AreSettled end) × F end)) (acts last) i x → IfOkay (Still before) last i x
    still_so before last i (Ok u) t m = record { settled = m.0; unfailed = t.unfailed }
    still_so before last i (Err e) t m = tt

    has_so : (before : List Deed) (last : List Done) (i : Hand) (x : Result Unit CommandFault) → okay (Of (λ end. (AreSettled before → AreSettled end) × F end)) (acts last) i x → IfOkay Has last i x
    has_so before last i (Ok u) m = m.1
    has_so before last i (Err e) m = tt

    worked : (later : List Done) (j : Hand) (r : Result Opened CommandFault) → Sound w (acts later) j → okay Begun (acts later) j r → Keeps (rules_of w) later j (after work r) (IfOkay Has)
    worked later j (Ok o) s b =
        keeps_bind (rules_of w) later j (opened_work o) (ended p) (ByActs (Soundly w (okay (Of (λ end. (AreSettled (acts later) → AreSettled end) × F end))))) (IfOkay Has)
        (goes_keeps w later (acts later) j (opened_work o) (okay (Of (λ end. (AreSettled (acts later) → AreSettled end) × F end))) refl s (works (acts later) j o b))
        (λ last i x q. ended_so (acts later) last i x q.0.numbered (still_so (acts later) last i x q.0 q.1) (has_so (acts later) last i x q.1))
    worked later j (Err e) s b = stops later j e s.numbered

    pub work_done : (past : List Done) (h : Hand) → Sound w (acts past) h → Goes w (acts past) h (begun w.run p (Mail path) folder) (okay Begun) → Keeps (rules_of w) past h (lifted (of_plan folder) (begun w.run p (Mail path) folder) >>= work) (IfOkay Has)
    unfolding ◌>>=◌
    work_done past h sound begins =
        keeps_bind (rules_of w) past h (lifted (of_plan folder) (begun w.run p (Mail path) folder)) (after work) (ByActs (Soundly w (okay Begun))) (IfOkay Has)
        (goes_keeps w past (acts past) h (lifted (of_plan folder) (begun w.run p (Mail path) folder)) (okay Begun) refl sound (goes_lifted w (acts past) h (of_plan folder) (begun w.run p (Mail path) folder) Begun begins))
        (λ later j r q. worked later j r q.0 q.1)
