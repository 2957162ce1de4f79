-- The end of a command on several folders keeps the rules of its pledge.
use Rattle.std.proofs.Common.{◌≢◌, ◌++◌, ◌∷◌, [], List, Result, Ok, Err}
use Rattle.folder_files.specs.Deeds.{Deed, HasFailed, did, now, on}
use Rattle.folder_files.specs.declared.place.Place.{Place}
use Rattle.folder_files.specs.declared.step.Answer.{Answer}
use Rattle.folder_files.specs.declared.step.Answer.TheVariants as answer
use Rattle.folder_files.specs.declared.step.Step.TheVariants as step
use Rattle.file_plans.specs.Asking.{attempt_unlock, unlock}
use Rattle.file_plans.specs.Plan.{Hand, ask, attempt, bind, lifted, ◌>>=◌}
use Rattle.file_plans.specs.Rules.{IfOkay, Keeps}
use Rattle.file_plans.specs.Runs.{Deed as Done, Did}
use Rattle.file_plans.specs.StaysCareful.{only_looks}
use Rattle.file_plans.proofs.Acting.{acts, acts_append}
use Rattle.file_plans.proofs.Framing.{AnyStep}
use Rattle.step_plans.specs.Pledges.{MayAsk, Pledge}
use Rattle.step_plans.specs.declared.command_fault.CommandFault.{CommandFault}
use Rattle.step_plans.specs.declared.command_fault.CommandFault.TheVariants as fault
use Rattle.step_plans.proofs.Facts.{settled_kept}
use Rattle.step_plans.proofs.Lasting.{KeptBy}
use Rattle.step_plans.proofs.Ruling.{AreNumbered, rules_of}
use Rattle.opening_plans.specs.Ending.{finished}
use Rattle.opening_plans.proofs.EndedKept.{Still}
use Rattle.refile_plans.specs.Gathering.{all_ended, all_finished, all_given_up}

-- what each step keeps
module _ (w : Pledge) (F : List Deed → Type 0) (keeps : KeptBy AnyStep F) where
  -- where the command is done, what was settled of commits is settled still, no step has failed, and this is so
  abbrev pub StillWith : List Deed → List Done → Hand → Unit {0} → Type 0
  StillWith own past h u = Still own past h u × F (acts past)

  unlocked : (past : List Done) (h : Hand) (p : Place) (a : Answer) → AreNumbered w.run h.next (acts past) → AreNumbered w.run h.next (acts (past ++ Did (step.Unlock p) a ∷ []))
  unlocked past h p a n = rw (acts_append [] past (Did (step.Unlock p) a ∷ [])) (tt, n)

  may_unlock : (own : List Deed) (p : Place) → MayAsk w own (step.Unlock p)
  may_unlock own p = record { is_own = only_looks tt; marks = tt; steps = λ no. absurd (no tt) }

  failed_unlocked : (own : List Deed) (p : Place) (a : Answer) → a ≢ answer.Failed → (HasFailed own → ⊥) → HasFailed (did (step.Unlock p) a ∷ own) → ⊥
  failed_unlocked own p a live f (now e) = live e
  failed_unlocked own p a live f (on z) = f z

  still_unlocked : (own : List Deed) (past : List Done) (h : Hand) (p : Place) (a : Answer) → a ≢ answer.Failed → Still own past h tt → Still own (past ++ Did (step.Unlock p) a ∷ []) h tt
  still_unlocked own past h p a live f = record {
    settled = λ s. rw (acts_append [] past (Did (step.Unlock p) a ∷ [])) (settled_kept (acts past) (step.Unlock p) a tt (f.settled s));
    unfailed = rw (acts_append [] past (Did (step.Unlock p) a ∷ [])) (failed_unlocked (acts past) p a live f.unfailed);
  }

  with_unlocked : (own : List Deed) (past : List Done) (h : Hand) (p : Place) (a : Answer) → a ≢ answer.Failed → StillWith own past h tt → StillWith own (past ++ Did (step.Unlock p) a ∷ []) h tt
  with_unlocked own past h p a live f = (still_unlocked own past h p a live f.0, rw (acts_append [] past (Did (step.Unlock p) a ∷ [])) (keeps (acts past) (step.Unlock p) a tt f.1))

  all_finished_keeps : (own : List Deed) (past : List Done) (h : Hand) (ps : List Place) → AreNumbered w.run h.next (acts past) → StillWith own past h tt → Keeps (rules_of w) past h (all_finished ps) (IfOkay (StillWith own))
  unfolding Keeps all_finished finished unlock ask lifted bind ◌>>=◌
  all_finished_keeps own past h [] n f = (n, f)
  all_finished_keeps own past h (p ∷ ps) n f =
      (n, may_unlock (acts past) p, unlocked past h p answer.Failed n, λ a row live. all_finished_keeps own (past ++ Did (step.Unlock p) a ∷ []) h ps (unlocked past h p a n) (with_unlocked own past h p a live f))

  all_given_up_keeps : (own : List Deed) (past : List Done) (h : Hand) (ps : List Place) (e : CommandFault) → AreNumbered w.run h.next (acts past) → Keeps (rules_of w) past h (all_given_up ps e) (IfOkay (StillWith own))
  unfolding Keeps all_given_up attempt_unlock attempt lifted bind ◌>>=◌
  all_given_up_keeps own past h [] e n = (n, tt)
  all_given_up_keeps own past h (p ∷ ps) e n = (n, may_unlock (acts past) p, λ a row. all_given_up_keeps own (past ++ Did (step.Unlock p) a ∷ []) h ps e (unlocked past h p a n))

  -- so a command ends on the folders at these places, whatever its work came to
  pub all_ended_keeps : (own : List Deed) (past : List Done) (h : Hand) (ps : List Place) (r : Result Unit CommandFault) → AreNumbered w.run h.next (acts past) → IfOkay (StillWith own) past h r → Keeps (rules_of w) past h (all_ended ps r) (IfOkay (StillWith own))
  unfolding Keeps
  all_ended_keeps own past h ps (Ok u) n f = all_finished_keeps own past h ps n f
  all_ended_keeps own past h ps (Err (fault.Refused r)) n f = all_given_up_keeps own past h ps (fault.Refused r) n
  all_ended_keeps own past h ps (Err (fault.Faulted which)) n f = (n, tt)
  all_ended_keeps own past h ps (Err (fault.Locked q)) n f = all_given_up_keeps own past h ps (fault.Locked q) n
  all_ended_keeps own past h ps (Err (fault.Meddled q x)) n f = (n, tt)
  all_ended_keeps own past h ps (Err fault.Memory) n f = (n, tt)
