use Rattle.std.proofs.Common.{◌≡◌, ◌∙◌, ap, refl, subst}
use Rattle.mh_sequences.specs.Runs.{AreRuns, numbers_of}
use Rattle.file_plans.proofs.Following.{lift_err, lift_ok, no_room}
use Rattle.step_plans.specs.CommandFaults.{command_cause}
use Rattle.step_plans.specs.PlanFaults.{plan_cause}
use Rattle.sequence_commits.specs.Marking.{marked_by_all}
use Rattle.command_stages.specs.Endings.{of_plan}
use Rattle.command_stages.proofs.Causes.{plan_same}
use Rattle.refile_plans.specs.Rmm.{withdrawn}
use Rattle.refile_plans.proofs.Loops.{withdraws}
use Rattle.refile_command.proofs.moving.withdraw.Goals as goal

pub returns-in_err-folder-clause-plan : goal.returns-in_err-folder-clause-plan
returns-in_err-folder-clause-plan g c = no_room _ c.from_residual.ensures refl

pub returns-in_err-marks-clause-plan : goal.returns-in_err-marks-clause-plan
returns-in_err-marks-clause-plan g c = no_room _ c.from_residual-in_err-marks.ensures refl

pub returns-in-Ok-clause-plan : goal.returns-in-Ok-clause-plan
returns-in-Ok-clause-plan g c = lift_ok _ plan_cause command_cause (of_plan c.args.source.now) _ _ _ _ (rw is at c.in-Ok.ensures.plan)
  where
    is : marked_by_all c.as_slice.result.now c.args.opened.now.sequences ≡ withdrawn (numbers_of c.args.chosen.runs) c.args.opened.now.sequences
    is =
        ap (λ ms. marked_by_all ms c.args.opened.now.sequences) (c.as_slice.ensures ∙ c.in_ok-marks.ensures)
        ∙ withdraws c.args.chosen c.args.opened.now.sequences (subst (λ s. AreRuns s.runs) c.chosen.view_is c.chosen.invariant.0)

pub returns-in-Err-clause-plan : goal.returns-in-Err-clause-plan
returns-in-Err-clause-plan g c = lift_err _ plan_cause command_cause (of_plan c.args.source.now) _ _ _ _ _ (plan_same _) (rw c.in_ok-folder.ensures at c.fault_in.ensures) (rw is at c.in-Err.ensures.plan)
  where
    is : marked_by_all c.as_slice.result.now c.args.opened.now.sequences ≡ withdrawn (numbers_of c.args.chosen.runs) c.args.opened.now.sequences
    is =
        ap (λ ms. marked_by_all ms c.args.opened.now.sequences) (c.as_slice.ensures ∙ c.in_ok-marks.ensures)
        ∙ withdraws c.args.chosen c.args.opened.now.sequences (subst (λ s. AreRuns s.runs) c.chosen.view_is c.chosen.invariant.0)
