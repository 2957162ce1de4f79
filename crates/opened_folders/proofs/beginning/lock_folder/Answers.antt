use Rattle.file_plans.proofs.Following.{go_from, stop_from}
use Rattle.step_plans.proofs.Faulting.{stop_same}
use Rattle.opening_plans.specs.Opening.{folder_locked}
use Rattle.opened_folders.proofs.beginning.lock_folder.Goals as goal

pub returns-in_err-locking : goal.returns-in_err-locking
unfolding folder_locked
returns-in_err-locking g c = λ h. stop_from _ stop_same (c.in_err-locking.ensures h) c.from_residual.ensures

pub returns : goal.returns
unfolding folder_locked
returns g c = λ h. go_from _ _ (c.in_ok-locking.ensures h) (c.locked_from.ensures _ _)
