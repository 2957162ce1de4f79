-- The promises of a pledge are kept.
use Rattle.std.proofs.Common.{[], Result, List, refl}
use Rattle.file_plans.specs.Follows.{State, Follows}
use Rattle.file_plans.specs.Plan.{Plan, Hand}
use Rattle.file_plans.specs.Rules.{Keeps}
use Rattle.file_plans.specs.Runs.{Cause, Deed}
use Rattle.step_plans.specs.Pledges.{Pledge}
use Rattle.step_plans.specs.Promises.{Promises}
use Rattle.step_plans.proofs.Ruling.{rules_of}
use Rattle.step_plans.proofs.Safe.{follows_careful, follows_pledge, follows_bases, follows_safe}
use Rattle.step_plans.proofs.Going.{Outcome, Soundly, ByActs, Goes, goes_keeps}
use Rattle.step_plans.proofs.Ordered.{follows_order}

-- a call whose plan keeps the rules of a pledge
pub keeps_pledge : {T E : Type 0} (w : Pledge) (cause : E → Cause) (plan : Plan (Result T E)) (x y : State) (result : Result T E) (Q : List Deed → Hand → Result T E → Type 0) →
    Keeps (rules_of w) [] x.hand plan Q → Follows w.run cause plan x y result → Promises w x y
keeps_pledge w cause plan x y result Q k f = record {
  careful = λ unused. follows_careful w cause plan x y result Q unused k f;
  as_pledged = follows_pledge w cause plan x y result Q k f;
  by_bases = follows_bases w cause plan x y result Q k f;
  safe = follows_safe w cause plan x y result Q k f;
  in_order = follows_order w cause plan x y result Q k f;
}

-- so of a plan that goes as pledged from the run's first step on
pub goes_promises : {T E : Type 0} (w : Pledge) (cause : E → Cause) (plan : Plan (Result T E)) (x y : State) (result : Result T E) (Q : Outcome (Result T E)) →
    Goes w [] x.hand plan Q → Follows w.run cause plan x y result → Promises w x y
goes_promises w cause plan x y result Q g f =
    keeps_pledge w cause plan x y result (ByActs (Soundly w Q)) (goes_keeps w [] [] x.hand plan Q refl (record { numbered = tt; unfailed = λ z. elim z [ ] }) g) f
