use Rattle.file_plans.proofs.Following.{go, stop}
use Rattle.sortm_plans.specs.Sort.{opened_sorted}
use Rattle.sortm_command.proofs.sorting.sort_opened.Goals as goal

pub returns-in_err-sort_chosen-clause-plan : goal.returns-in_err-sort_chosen-clause-plan
unfolding opened_sorted
returns-in_err-sort_chosen-clause-plan g c = stop _ c.in_err-sort_chosen.ensures.plan c.from_residual.ensures

pub returns-clause-plan : goal.returns-clause-plan
unfolding opened_sorted
returns-clause-plan g c = go _ c.in_ok-sort_chosen.ensures.plan (rw (c.in_ok-sort_chosen.ensures.run, c.in_ok-sort_chosen.ensures.mail) at c.make_current.ensures.plan)
