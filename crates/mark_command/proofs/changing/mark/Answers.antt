use Rattle.mark_command.specs.Mark.{mark}
use Rattle.mark_command.proofs.MarkAlone.{mark_alone}
use Rattle.mark_command.proofs.MarkPledged.{mark_promises}
use Rattle.mark_command.proofs.changing.mark.Goals as goal

pub returns-in-Some-clause-plan : goal.returns-in-Some-clause-plan
unfolding mark
returns-in-Some-clause-plan g c = rw c.in-Some.is c.change.ensures.plan

pub returns-in-None-clause-plan : goal.returns-in-None-clause-plan
unfolding mark
returns-in-None-clause-plan g c = rw c.in-None.is c.look.ensures.plan

pub returns-in-Some-clause-alone : goal.returns-in-Some-clause-alone
returns-in-Some-clause-alone g c = mark_alone _ _ _ _ _ _ _ _ _ _ (returns-in-Some-clause-plan g c)

pub returns-in-None-clause-alone : goal.returns-in-None-clause-alone
returns-in-None-clause-alone g c = mark_alone _ _ _ _ _ _ _ _ _ _ (returns-in-None-clause-plan g c)

pub returns-in-Some-clause-steps : goal.returns-in-Some-clause-steps
returns-in-Some-clause-steps g c = λ few. mark_promises _ few _ _ _ _ _ (returns-in-Some-clause-plan g c)

pub returns-in-None-clause-steps : goal.returns-in-None-clause-steps
returns-in-None-clause-steps g c = λ few. mark_promises _ few _ _ _ _ _ (returns-in-None-clause-plan g c)
