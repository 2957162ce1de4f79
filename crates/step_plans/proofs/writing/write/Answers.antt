use Rattle.file_plans.proofs.Following.{go, stop, done}
use Rattle.step_plans.specs.Replacing.{written}
use Rattle.step_plans.proofs.writing.write.Goals as goal

pub returns-in_err-temp-clause-plan : goal.returns-in_err-temp-clause-plan
unfolding written
returns-in_err-temp-clause-plan g c = stop _ (c.in_err-temp.ensures _) c.from_residual.ensures

pub returns-in_err-create-clause-plan : goal.returns-in_err-create-clause-plan
unfolding written
returns-in_err-create-clause-plan g c = go _ (c.in_ok-temp.ensures _) (stop _ (c.in_err-create.ensures.plan _) c.from_residual-in_err-create.ensures)

pub returns-in_err-make_safe-clause-plan : goal.returns-in_err-make_safe-clause-plan
unfolding written
returns-in_err-make_safe-clause-plan g c = go _ (c.in_ok-temp.ensures _) (go _ (c.in_ok-create.ensures.plan _) (stop _ (c.in_err-make_safe.ensures _) c.from_residual-in_err-make_safe.ensures))

pub returns-clause-plan : goal.returns-clause-plan
unfolding written
returns-clause-plan g c = go _ (c.in_ok-temp.ensures _) (go _ (c.in_ok-create.ensures.plan _) (go _ (c.in_ok-make_safe.ensures _) done))
