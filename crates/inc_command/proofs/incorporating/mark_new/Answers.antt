use Rattle.std.proofs.Common.{◌≡◌, ap, refl, ◌∙◌}
use Rattle.file_plans.proofs.Following.{go_from, no_room, stop_from}
use Rattle.command_stages.proofs.Causes.{plan_same}
use Rattle.sequence_commits.specs.Marking.{marked_by_all}
use Rattle.sequence_commits.proofs.PlainMarks.{all_plain}
use Rattle.inc_plans.specs.Asked.{asked}
use Rattle.inc_plans.specs.Inc.{new_marked, new_marks}
use Rattle.inc_command.proofs.incorporating.mark_new.Goals as goal

pub returns-in_err-marks-clause-plan : goal.returns-in_err-marks-clause-plan
returns-in_err-marks-clause-plan g c = no_room _ c.from_residual.ensures refl

pub returns-in_err-folder-clause-plan : goal.returns-in_err-folder-clause-plan
returns-in_err-folder-clause-plan g c = no_room _ c.from_residual-in_err-folder.ensures refl

pub returns-in-Ok-clause-plan : goal.returns-in-Ok-clause-plan
unfolding new_marked
returns-in-Ok-clause-plan g c = go_from _ _ (rw is at c.in-Ok.ensures.plan) (rw (c.in-Ok.ensures.same.0, c.in-Ok.ensures.same.1) at c.make_current.ensures.plan)
  where
    is : marked_by_all c.as_slice.result.now c.args.opened.sequences ≡ marked_by_all (new_marks (asked c.args.job.now) c.args.numbers.now) c.args.opened.sequences
    is = all_plain c.as_slice.result.now c.args.opened.sequences ∙ ap (λ ms. marked_by_all ms c.args.opened.sequences) (rw c.as_slice.ensures c.in_ok-marks.ensures)

pub returns-clause-plan : goal.returns-clause-plan
unfolding new_marked
returns-clause-plan g c = stop_from _ (plan_same _) (rw is at c.in-Err.ensures.plan) (refl, rw c.in_ok-folder.ensures at c.fault_in.ensures)
  where
    is : marked_by_all c.as_slice.result.now c.args.opened.sequences ≡ marked_by_all (new_marks (asked c.args.job.now) c.args.numbers.now) c.args.opened.sequences
    is = all_plain c.as_slice.result.now c.args.opened.sequences ∙ ap (λ ms. marked_by_all ms c.args.opened.sequences) (rw c.as_slice.ensures c.in_ok-marks.ensures)
