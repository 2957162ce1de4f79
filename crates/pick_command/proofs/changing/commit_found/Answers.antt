use Rattle.std.proofs.Common.{◌≡◌, ap, refl, ◌∙◌}
use Rattle.file_plans.proofs.Following.{lift_err, lift_ok, no_room}
use Rattle.command_stages.proofs.Causes.{plan_same}
use Rattle.sequence_commits.specs.Marking.{marked_by_all}
use Rattle.sequence_commits.proofs.PlainMarks.{all_plain}
use Rattle.pick_plans.specs.Marking.{marked_for}
use Rattle.pick_command.proofs.changing.commit_found.Goals as goal

pub returns-in_err-marks-clause-plan : goal.returns-in_err-marks-clause-plan
returns-in_err-marks-clause-plan g c = no_room _ c.from_residual.ensures refl

pub returns-in_err-folder-clause-plan : goal.returns-in_err-folder-clause-plan
returns-in_err-folder-clause-plan g c = no_room _ c.from_residual-in_err-folder.ensures refl

pub returns-in-Ok-clause-plan : goal.returns-in-Ok-clause-plan
returns-in-Ok-clause-plan g c = lift_ok _ _ _ _ _ _ _ _ (rw is at c.in-Ok.ensures.plan)
  where
    is : marked_by_all c.as_slice.result.now c.args.opened.now.sequences ≡ marked_for c.args.to.now c.args.found.now c.args.opened.now.sequences
    is = all_plain c.as_slice.result.now c.args.opened.now.sequences ∙ ap (λ ms. marked_by_all ms c.args.opened.now.sequences) (rw c.as_slice.ensures c.in_ok-marks.ensures)

pub returns-clause-plan : goal.returns-clause-plan
returns-clause-plan g c = lift_err _ _ _ _ _ _ _ _ _ (plan_same _) (rw c.in_ok-folder.ensures at c.fault_in.ensures) (rw is at c.in-Err.ensures.plan)
  where
    is : marked_by_all c.as_slice.result.now c.args.opened.now.sequences ≡ marked_for c.args.to.now c.args.found.now c.args.opened.now.sequences
    is = all_plain c.as_slice.result.now c.args.opened.now.sequences ∙ ap (λ ms. marked_by_all ms c.args.opened.now.sequences) (rw c.as_slice.ensures c.in_ok-marks.ensures)
