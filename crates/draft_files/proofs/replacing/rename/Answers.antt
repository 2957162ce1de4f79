use Rattle.file_plans.proofs.Following.{go_from, stop_from}
use Rattle.step_plans.proofs.Faulting.{stop_same}
use Rattle.step_plans.specs.Replacing.{renamed}
use Rattle.draft_files.proofs.replacing.rename.Goals as goal

pub returns-in_err-touched : goal.returns-in_err-touched
unfolding renamed
returns-in_err-touched g c = λ h. stop_from _ stop_same (c.in_err-touched.ensures h) c.from_residual.ensures

pub returns : goal.returns
unfolding renamed
returns g c = λ h. go_from _ _ (c.in_ok-touched.ensures h) (c.hold_to.ensures _ _)
