use Rattle.file_plans.proofs.Following.{go, stop}
use Rattle.opening_plans.specs.Opening.{begun}
use Rattle.opened_folders.proofs.beginning.begin_at.Goals as goal

pub returns-in_err-lock_folder-clause-plan : goal.returns-in_err-lock_folder-clause-plan
unfolding begun
returns-in_err-lock_folder-clause-plan g c = stop _ (rw c.run.ensures at (c.in_err-lock_folder.ensures c.args.hand.now.kept)) c.from_residual.ensures

pub returns-clause-plan : goal.returns-clause-plan
unfolding begun
returns-clause-plan g c = go _ (rw c.run.ensures at (c.in_ok-lock_folder.ensures c.args.hand.now.kept)) c.begin_locked.ensures.plan
