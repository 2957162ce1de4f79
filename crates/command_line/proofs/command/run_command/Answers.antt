use Rattle.std.proofs.Common.{refl}
use Rattle.file_plans.specs.Plan.{fresh}
use Rattle.file_plans.proofs.Following.{beside, go_from, stop_from, whole, no_room}
use Rattle.command_plans.specs.Command.{command}
use Rattle.command_plans.proofs.Plans.{memory_unsourced, plain_same, text_unsourced}
use Rattle.command_line.proofs.command.run_command.Goals as goal

pub returns-in_err-text-clause-plan : goal.returns-in_err-text-clause-plan
unfolding command
returns-in_err-text-clause-plan g c = (fresh, stop_from _ plain_same (beside (whole (c.in_err-text.ensures fresh))) c.from_residual.ensures)

pub returns-in_err-profile-clause-plan : goal.returns-in_err-profile-clause-plan
unfolding command
returns-in_err-profile-clause-plan g c = (fresh, go_from _ _ (beside (whole (c.in_ok-text.ensures fresh))) (no_room _ c.from_residual-in_err-profile.ensures refl))

pub returns-clause-plan : goal.returns-clause-plan
unfolding command
returns-clause-plan g c =
    let named = c.run_named.ensures.plan in
    (named.0, go_from _ _ (beside (whole (c.in_ok-text.ensures fresh))) (rw (c.in_ok-profile.ensures, c.as_slice.ensures) at named.1))

pub returns-in_err-text-clause-input : goal.returns-in_err-text-clause-input
returns-in_err-text-clause-input g c = λ other. (refl, text_unsourced _ (c.in_err-text.ensures fresh) c.from_residual.ensures)

pub returns-in_err-profile-clause-input : goal.returns-in_err-profile-clause-input
returns-in_err-profile-clause-input g c = λ other. (refl, memory_unsourced _ _ c.from_residual-in_err-profile.ensures refl)
