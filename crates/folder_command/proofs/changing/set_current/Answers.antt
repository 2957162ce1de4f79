use Rattle.std.proofs.Common.{◌≡◌, ap, refl}
use Rattle.file_plans.proofs.Following.{go_from, no_room, stop_from}
use Rattle.command_stages.proofs.Causes.{plan_same}
use Rattle.command_stages.proofs.Values.{value_off, value_on}
use Rattle.sequence_commits.specs.Marking.{marked_by_all}
use Rattle.opening_plans.proofs.OneStep.{done_as}
use Rattle.told_folders.specs.Plans.{chosen_changed}
use Rattle.told_folders.specs.Tasks.{chosen_from}
use Rattle.folder_command.specs.Folder.{task_with, with_current}
use Rattle.folder_command.proofs.changing.set_current.Goals as goal

pub returns-in_err-marks-clause-plan : goal.returns-in_err-marks-clause-plan
unfolding chosen_changed
returns-in_err-marks-clause-plan g c = value_off _ (chosen_from (task_with c.args.job.now.specs c.args.job.now) c.args.opened.listing c.args.opened.sequences) _ _ c.in_err-marks.ensures c.from_residual.ensures

pub returns-in_err-folder-clause-plan : goal.returns-in_err-folder-clause-plan
unfolding chosen_changed
returns-in_err-folder-clause-plan g c =
    value_on _ (chosen_from (task_with c.args.job.now.specs c.args.job.now) c.args.opened.listing c.args.opened.sequences) c.in_ok-marks.ensures.0 c.in_ok-marks.ensures.1 (no_room _ c.from_residual-in_err-folder.ensures refl)

pub returns-in-Ok-clause-plan : goal.returns-in-Ok-clause-plan
unfolding chosen_changed
returns-in-Ok-clause-plan g c =
    value_on _ (chosen_from (task_with c.args.job.now.specs c.args.job.now) c.args.opened.listing c.args.opened.sequences) c.in_ok-marks.ensures.0 c.in_ok-marks.ensures.1
    (go_from _ _ (rw is at c.in-Ok.ensures.plan) (done_as (rw is at c.in-Ok.ensures.marked)))
  where
    is : marked_by_all c.as_slice.result.now c.args.opened.sequences ≡ with_current c.in_ok-marks.ensures.0 c.args.opened.sequences
    is = ap (λ ms. marked_by_all ms c.args.opened.sequences) (rw c.as_slice.ensures c.in_ok-marks.ensures.2)

pub returns-in-Err-clause-plan : goal.returns-in-Err-clause-plan
unfolding chosen_changed
returns-in-Err-clause-plan g c =
    value_on _ (chosen_from (task_with c.args.job.now.specs c.args.job.now) c.args.opened.listing c.args.opened.sequences) c.in_ok-marks.ensures.0 c.in_ok-marks.ensures.1
    (stop_from _ (plan_same _) (rw is at c.in-Err.ensures.plan) (refl, rw c.in_ok-folder.ensures at c.fault_in.ensures))
  where
    is : marked_by_all c.as_slice.result.now c.args.opened.sequences ≡ with_current c.in_ok-marks.ensures.0 c.args.opened.sequences
    is = ap (λ ms. marked_by_all ms c.args.opened.sequences) (rw c.as_slice.ensures c.in_ok-marks.ensures.2)
