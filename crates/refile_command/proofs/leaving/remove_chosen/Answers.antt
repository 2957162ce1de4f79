use Rattle.std.proofs.Common.{refl}
use Rattle.mh_sequences.specs.Runs.{numbers_of}
use Rattle.file_plans.proofs.Following.{lift_err, lift_ok, no_room}
use Rattle.step_plans.specs.CommandFaults.{command_cause}
use Rattle.step_plans.specs.PlanFaults.{plan_cause}
use Rattle.command_stages.specs.Endings.{of_plan}
use Rattle.command_stages.proofs.Causes.{plan_same}
use Rattle.command_stages.proofs.Values.{error_chosen, value_off, value_on}
use Rattle.refile_plans.specs.Rmm.{chosen_from, said_removed}
use Rattle.refile_command.proofs.leaving.remove_chosen.Goals as goal

pub returns-in_err-chosen-clause-plan : goal.returns-in_err-chosen-clause-plan
unfolding said_removed
returns-in_err-chosen-clause-plan g c = value_off _ (chosen_from c.args.job.now c.args.opened.listing c.args.opened.sequences) _ _ (error_chosen _ _ c.in_err-chosen.ensures) c.from_residual.ensures

pub returns-in_err-folder-clause-plan : goal.returns-in_err-folder-clause-plan
unfolding said_removed
returns-in_err-folder-clause-plan g c =
    value_on _ (chosen_from c.args.job.now c.args.opened.listing c.args.opened.sequences) (numbers_of c.in_ok-chosen.chosen.runs) c.in_ok-chosen.ensures (no_room _ c.from_residual-in_err-folder.ensures refl)

pub returns-in-Ok-clause-plan : goal.returns-in-Ok-clause-plan
unfolding said_removed
returns-in-Ok-clause-plan g c =
    value_on _ (chosen_from c.args.job.now c.args.opened.listing c.args.opened.sequences) (numbers_of c.in_ok-chosen.chosen.runs) c.in_ok-chosen.ensures
    (lift_ok _ plan_cause command_cause (of_plan c.args.job.now.folder) _ _ _ _ c.in-Ok.ensures.plan)

pub returns-clause-plan : goal.returns-clause-plan
unfolding said_removed
returns-clause-plan g c =
    value_on _ (chosen_from c.args.job.now c.args.opened.listing c.args.opened.sequences) (numbers_of c.in_ok-chosen.chosen.runs) c.in_ok-chosen.ensures
    (lift_err _ plan_cause command_cause (of_plan c.args.job.now.folder) _ _ _ _ _ (plan_same _) (rw c.in_ok-folder.ensures at c.fault_in.ensures) c.in-Err.ensures.plan)
