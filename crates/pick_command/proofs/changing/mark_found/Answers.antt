use Rattle.file_plans.proofs.Following.{go, stop, whole}
use Rattle.pick_plans.specs.Pick.{found_marked}
use Rattle.pick_command.proofs.changing.mark_found.Goals as goal

pub returns-in_err-commit_found-clause-plan : goal.returns-in_err-commit_found-clause-plan
unfolding found_marked
returns-in_err-commit_found-clause-plan g c = stop _ (whole c.in_err-commit_found.ensures.plan) c.from_residual.ensures

pub returns-clause-plan : goal.returns-clause-plan
unfolding found_marked
returns-clause-plan g c = go _ (whole c.in_ok-commit_found.ensures.plan) (rw (c.in_ok-commit_found.ensures.run, c.in_ok-commit_found.ensures.mail) at c.tell.ensures.plan)
