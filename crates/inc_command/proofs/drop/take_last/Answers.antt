use Rattle.std.proofs.Common.{◌∙◌, ap, refl, Ok, Some, None}
use Rattle.file_plans.proofs.Following.{done, no_room}
use Rattle.command_stages.proofs.Values.{value_off, value_on}
use Rattle.inc_plans.specs.Cutting.{last_by}
use Rattle.inc_plans.specs.DropTaken.{ended_taken}
use Rattle.inc_plans.specs.Intake.{all_taken}
use Rattle.inc_command.proofs.drop.take_last.Goals as goal

pub returns-in_err-message-clause-plan : goal.returns-in_err-message-clause-plan
unfolding ended_taken
returns-in_err-message-clause-plan g c = λ d has. value_off _ (last_by d) _ _ (c.in_err-message.ensures d has) c.from_residual.ensures

pub returns-in_default-clause-plan : goal.returns-in_default-clause-plan
unfolding ended_taken all_taken
returns-in_default-clause-plan g c = λ d has. value_on _ (last_by d) None (c.in_ok-message.ensures d has ∙ ap Ok c.in_default.is) done

pub returns-in_err-push-clause-plan : goal.returns-in_err-push-clause-plan
unfolding ended_taken
returns-in_err-push-clause-plan g c = λ d has. value_on _ (last_by d) (Some c.in-Some.message) (c.in_ok-message.ensures d has ∙ ap Ok c.in-Some.is) (no_room _ c.from_residual-in_err-push.ensures refl)

pub returns-clause-plan : goal.returns-clause-plan
unfolding ended_taken
returns-clause-plan g c = λ d has. value_on _ (last_by d) (Some c.in-Some.message) (c.in_ok-message.ensures d has ∙ ap Ok c.in-Some.is) (rw (c.in_ok-push.ensures.ok, c.new-messages.ensures) at c.take_all.ensures.plan)
