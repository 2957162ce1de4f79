use Rattle.file_plans.proofs.Following.{go, stop}
use Rattle.refile_plans.specs.Rmm.{opened_removed}
use Rattle.refile_command.proofs.leaving.remove_opened.Goals as goal

pub returns-in_err-remove_chosen-clause-plan : goal.returns-in_err-remove_chosen-clause-plan
unfolding opened_removed
returns-in_err-remove_chosen-clause-plan g c = stop _ c.in_err-remove_chosen.ensures.plan c.from_residual.ensures

pub returns-clause-plan : goal.returns-clause-plan
unfolding opened_removed
returns-clause-plan g c = go _ c.in_ok-remove_chosen.ensures.plan (rw (c.in_ok-remove_chosen.ensures.run, c.in_ok-remove_chosen.ensures.mail) at c.make_current.ensures.plan)
