use Rattle.std.proofs.Common.{refl}
use Rattle.mh_sequences.specs.Runs.{numbers_of}
use Rattle.file_plans.proofs.Following.{lift_err, lift_ok, no_room}
use Rattle.step_plans.specs.CommandFaults.{command_cause}
use Rattle.step_plans.specs.PlanFaults.{plan_cause}
use Rattle.command_stages.specs.Endings.{of_plan}
use Rattle.command_stages.proofs.Causes.{plan_same}
use Rattle.command_stages.proofs.Values.{error_chosen, value_off, value_on}
use Rattle.anno_plans.specs.Anno.{chosen_from, said_noted}
use Rattle.anno_command.proofs.annotating.note_chosen.Goals as goal

pub returns-in_err-chosen-clause-plan : goal.returns-in_err-chosen-clause-plan
unfolding said_noted
returns-in_err-chosen-clause-plan g c = value_off _ (chosen_from c.args.job.now c.args.opened.now.listing c.args.opened.now.sequences) _ _ (error_chosen _ _ c.in_err-chosen.ensures) c.from_residual.ensures

pub returns-in_err-numbers-clause-plan : goal.returns-in_err-numbers-clause-plan
unfolding said_noted
returns-in_err-numbers-clause-plan g c =
    value_on _ (chosen_from c.args.job.now c.args.opened.now.listing c.args.opened.now.sequences) (numbers_of c.in_ok-chosen.chosen.runs) c.in_ok-chosen.ensures (no_room _ c.from_residual-in_err-numbers.ensures refl)

pub returns-in_err-folder-clause-plan : goal.returns-in_err-folder-clause-plan
unfolding said_noted
returns-in_err-folder-clause-plan g c =
    value_on _ (chosen_from c.args.job.now c.args.opened.now.listing c.args.opened.now.sequences) (numbers_of c.in_ok-chosen.chosen.runs) c.in_ok-chosen.ensures (no_room _ c.from_residual-in_err-folder.ensures refl)

pub returns-in-Ok-clause-plan : goal.returns-in-Ok-clause-plan
unfolding said_noted
returns-in-Ok-clause-plan g c =
    value_on _ (chosen_from c.args.job.now c.args.opened.now.listing c.args.opened.now.sequences) (numbers_of c.in_ok-chosen.chosen.runs) c.in_ok-chosen.ensures
    (lift_ok _ plan_cause command_cause (of_plan c.args.job.now.folder) _ _ _ _ (rw (c.place.ensures, c.as_slice.ensures, c.as_slice-2.ensures.value, c.in_ok-numbers.ensures, c.highest-top.ensures.value) at c.in-Ok.ensures.plan))

pub returns-clause-plan : goal.returns-clause-plan
unfolding said_noted
returns-clause-plan g c =
    value_on _ (chosen_from c.args.job.now c.args.opened.now.listing c.args.opened.now.sequences) (numbers_of c.in_ok-chosen.chosen.runs) c.in_ok-chosen.ensures
    (lift_err _ plan_cause command_cause (of_plan c.args.job.now.folder) _ _ _ _ _ (plan_same _) (rw c.in_ok-folder.ensures at c.fault_in.ensures)
    (rw (c.place.ensures, c.as_slice.ensures, c.as_slice-2.ensures.value, c.in_ok-numbers.ensures, c.highest-top.ensures.value) at c.in-Err.ensures.plan))
