use Rattle.file_plans.proofs.Following.{done, go, stop}
use Rattle.refile_plans.specs.Refile.{opened_refiled}
use Rattle.refile_command.proofs.refiling.refile_opened.Goals as goal

pub returns-in_err-refile_said-clause-plan : goal.returns-in_err-refile_said-clause-plan
unfolding opened_refiled
returns-in_err-refile_said-clause-plan g c = stop _ c.in_err-refile_said.ensures.plan c.from_residual.ensures

pub returns-then-job-clause-plan : goal.returns-then-job-clause-plan
unfolding opened_refiled
returns-then-job-clause-plan g c = go _ c.in_ok-refile_said.ensures.plan (rw c.if-job.true (rw (c.in_ok-refile_said.ensures.same.0, c.in_ok-refile_said.ensures.same.1) at c.make_current.ensures.plan))

pub returns-else-job-clause-plan : goal.returns-else-job-clause-plan
unfolding opened_refiled
returns-else-job-clause-plan g c = go _ c.in_ok-refile_said.ensures.plan (rw c.if-job.false done)
