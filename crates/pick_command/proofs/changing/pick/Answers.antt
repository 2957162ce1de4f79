use Rattle.pick_plans.specs.Pick.{pick}
use Rattle.pick_plans.proofs.PickAlone.{picks_alone}
use Rattle.pick_plans.proofs.PickPledged.{pick_promises}
use Rattle.pick_command.proofs.changing.pick.Goals as goal

pub returns-in-Some-clause-plan : goal.returns-in-Some-clause-plan
unfolding pick
returns-in-Some-clause-plan g c = rw c.in-Some.is c.change.ensures.plan

pub returns-in-None-clause-plan : goal.returns-in-None-clause-plan
unfolding pick
returns-in-None-clause-plan g c = rw c.in-None.is c.look.ensures.plan

pub returns-in-Some-clause-alone : goal.returns-in-Some-clause-alone
returns-in-Some-clause-alone g c = picks_alone _ _ _ _ _ _ _ _ _ _ (returns-in-Some-clause-plan g c)

pub returns-in-None-clause-alone : goal.returns-in-None-clause-alone
returns-in-None-clause-alone g c = picks_alone _ _ _ _ _ _ _ _ _ _ (returns-in-None-clause-plan g c)

pub returns-in-Some-clause-steps : goal.returns-in-Some-clause-steps
returns-in-Some-clause-steps g c = λ few. pick_promises _ few _ _ _ _ _ (returns-in-Some-clause-plan g c)

pub returns-in-None-clause-steps : goal.returns-in-None-clause-steps
returns-in-None-clause-steps g c = λ few. pick_promises _ few _ _ _ _ _ (returns-in-None-clause-plan g c)
