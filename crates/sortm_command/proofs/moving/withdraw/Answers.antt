use Rattle.std.proofs.Common.{◌≡◌, refl, ap, ◌∙◌}
use Rattle.file_plans.proofs.Following.{no_room}
use Rattle.sequence_commits.specs.Marking.{marked_by_all}
use Rattle.sequence_commits.proofs.PlainMarks.{all_plain}
use Rattle.sortm_plans.proofs.Withdrawing.{one_withdrawn}
use Rattle.sortm_command.proofs.moving.withdraw.Goals as goal
use Rattle.refile_plans.specs.Rmm.{withdrawn}

pub returns-in_err-marks-clause-plan : goal.returns-in_err-marks-clause-plan
returns-in_err-marks-clause-plan g c = no_room _ c.from_residual.ensures refl

pub returns-clause-plan : goal.returns-clause-plan
returns-clause-plan g c = rw is at c.commit_marks.ensures.plan
  where
    is : marked_by_all c.as_slice.result.now c.args.opened.now.sequences ≡ withdrawn c.args.numbers.now c.args.opened.now.sequences
    is = all_plain c.as_slice.result.now c.args.opened.now.sequences ∙ ap (λ ms. marked_by_all ms c.args.opened.now.sequences) (rw c.as_slice.ensures c.in_ok-marks.ensures) ∙ one_withdrawn c.args.numbers.now c.args.opened.now.sequences

pub returns-clause-left : goal.returns-clause-left
returns-clause-left g c = rw is at c.commit_marks.ensures.marked
  where
    is : marked_by_all c.as_slice.result.now c.args.opened.now.sequences ≡ withdrawn c.args.numbers.now c.args.opened.now.sequences
    is = all_plain c.as_slice.result.now c.args.opened.now.sequences ∙ ap (λ ms. marked_by_all ms c.args.opened.now.sequences) (rw c.as_slice.ensures c.in_ok-marks.ensures) ∙ one_withdrawn c.args.numbers.now c.args.opened.now.sequences
