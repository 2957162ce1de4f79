-- A command's end keeps the rules of its pledge.
use Rattle.std.proofs.Common.{◌≢◌, ◌++◌, ◌∷◌, [], List, Result, Ok, Err}
use Rattle.folder_files.specs.Deeds.{Deed, HasFailed, did, now, on}
use Rattle.folder_files.specs.declared.place.Place.{Place}
use Rattle.folder_files.specs.declared.step.Answer.{Answer}
use Rattle.folder_files.specs.declared.step.Answer.TheVariants as answer
use Rattle.folder_files.specs.declared.step.Step.TheVariants as step
use Rattle.file_plans.specs.Asking.{attempt_unlock, unlock}
use Rattle.file_plans.specs.Plan.{Ask, Hand, Hear, Note, Plan, Recall, Return, Say, Try, ask, attempt, bind, lifted, ◌>>=◌}
use Rattle.file_plans.specs.Rules.{IfOkay, Keeps, Rules}
use Rattle.file_plans.specs.Runs.{Deed as Done, Did, Heard, Said}
use Rattle.file_plans.specs.StaysCareful.{only_looks}
use Rattle.file_plans.proofs.Acting.{acts, acts_append}
use Rattle.step_plans.specs.Pledges.{MayAsk, Pledge}
use Rattle.step_plans.specs.Settled.{AreSettled}
use Rattle.step_plans.specs.declared.command_fault.CommandFault.{CommandFault}
use Rattle.step_plans.specs.declared.command_fault.CommandFault.TheVariants as fault
use Rattle.step_plans.proofs.Facts.{settled_kept}
use Rattle.step_plans.proofs.Ruling.{AreNumbered, rules_of}
use Rattle.opening_plans.specs.Ending.{ended, finished, given_up}

-- a plan that keeps rules, where less is asked of its end
pub keeps_more : {R : Type 0} (u : Rules) (past : List Done) (h : Hand) (p : Plan R) (P Q : List Done → Hand → R → Type 0) → ((later : List Done) (j : Hand) (r : R) → P later j r → Q later j r) → Keeps u past h p P → Keeps u past h p Q
unfolding Keeps
keeps_more u past h (Return r) P Q f g = (g.0, f past h r g.1)
keeps_more u past h (Ask s next) P Q f g = (g.0, g.1, g.2, λ a row live. keeps_more u (past ++ Did s a ∷ []) h (next a) P Q f (g.3 a row live))
keeps_more u past h (Try s next) P Q f g = (g.0, g.1, λ a row. keeps_more u (past ++ Did s a ∷ []) h (next a) P Q f (g.2 a row))
keeps_more u past h (Say piece next) P Q f g = (g.0, g.1, g.2, keeps_more u (past ++ Said piece ∷ []) h next P Q f g.3)
keeps_more u past h (Hear most next) P Q f g = (g.0, g.1, λ piece short. keeps_more u (past ++ Heard piece ∷ []) h (next piece) P Q f (g.2 piece short))
keeps_more u past h (Recall next) P Q f g = keeps_more u past h (next h) P Q f g
keeps_more u past h (Note j next) P Q f g = (g.0, keeps_more u past j next P Q f g.1)

-- where a command is done, what was settled of commits is settled still, and no step has failed
pub record Still (own : List Deed) (past : List Done) (h : Hand) (u : Unit {0}) : Type 0 where
  pub settled : AreSettled own → AreSettled (acts past)
  pub unfailed : HasFailed (acts past) → ⊥

module _ (w : Pledge) where
  unlocked : (past : List Done) (h : Hand) (p : Place) (a : Answer) → AreNumbered w.run h.next (acts past) → AreNumbered w.run h.next (acts (past ++ Did (step.Unlock p) a ∷ []))
  unlocked past h p a n = rw (acts_append [] past (Did (step.Unlock p) a ∷ [])) (tt, n)

  may_unlock : (own : List Deed) (p : Place) → MayAsk w own (step.Unlock p)
  may_unlock own p = record { is_own = only_looks tt; marks = tt; steps = λ no. absurd (no tt) }

  failed_unlocked : (own : List Deed) (p : Place) (a : Answer) → a ≢ answer.Failed → (HasFailed own → ⊥) → HasFailed (did (step.Unlock p) a ∷ own) → ⊥
  failed_unlocked own p a live f (now e) = live e
  failed_unlocked own p a live f (on z) = f z

  still_unlocked : (own : List Deed) (past : List Done) (h : Hand) (p : Place) (a : Answer) → a ≢ answer.Failed → Still own past h tt → Still own (past ++ Did (step.Unlock p) a ∷ []) h tt
  still_unlocked own past h p a live f = record {
    settled = λ s. rw (acts_append [] past (Did (step.Unlock p) a ∷ [])) (settled_kept (acts past) (step.Unlock p) a tt (f.settled s));
    unfailed = rw (acts_append [] past (Did (step.Unlock p) a ∷ [])) (failed_unlocked (acts past) p a live f.unfailed);
  }

  finished_keeps : (own : List Deed) (past : List Done) (h : Hand) (p : Place) → AreNumbered w.run h.next (acts past) → Still own past h tt → Keeps (rules_of w) past h (finished p) (IfOkay (Still own))
  unfolding Keeps finished unlock ask lifted bind ◌>>=◌
  finished_keeps own past h p n f = (n, may_unlock (acts past) p, unlocked past h p answer.Failed n, λ a row live. (unlocked past h p a n, still_unlocked own past h p a live f))

  given_up_keeps : (own : List Deed) (past : List Done) (h : Hand) (p : Place) (e : CommandFault) → AreNumbered w.run h.next (acts past) → Keeps (rules_of w) past h (given_up p e) (IfOkay (Still own))
  unfolding Keeps given_up attempt_unlock attempt lifted bind ◌>>=◌
  given_up_keeps own past h p e n = (n, may_unlock (acts past) p, λ a row. (unlocked past h p a n, tt))

  -- so a command ends on a folder that it has begun
  pub ended_keeps : (own : List Deed) (past : List Done) (h : Hand) (p : Place) (r : Result Unit CommandFault) → AreNumbered w.run h.next (acts past) → IfOkay (Still own) past h r → Keeps (rules_of w) past h (ended p r) (IfOkay (Still own))
  unfolding Keeps
  ended_keeps own past h p (Ok u) n f = finished_keeps own past h p n f
  ended_keeps own past h p (Err (fault.Refused r)) n f = given_up_keeps own past h p (fault.Refused r) n
  ended_keeps own past h p (Err (fault.Faulted which)) n f = (n, tt)
  ended_keeps own past h p (Err (fault.Locked q)) n f = given_up_keeps own past h p (fault.Locked q) n
  ended_keeps own past h p (Err (fault.Meddled q x)) n f = (n, tt)
  ended_keeps own past h p (Err fault.Memory) n f = (n, tt)

pub none_keeps : (pledge : Pledge) (own : List Deed) (past : List Done) (h : Hand) (e : CommandFault) → AreNumbered pledge.run h.next (acts past) → Keeps (rules_of pledge) past h (Return (Err e)) (IfOkay (Still own))
unfolding Keeps
none_keeps pledge own past h e n = (n, tt)
