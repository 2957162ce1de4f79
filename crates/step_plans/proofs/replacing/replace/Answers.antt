use Rattle.file_plans.proofs.Following.{go, stop}
use Rattle.step_plans.specs.Replacing.{replaced}
use Rattle.step_plans.proofs.replacing.replace.Goals as goal

pub returns-in_err-temp : goal.returns-in_err-temp
unfolding replaced
returns-in_err-temp g c = stop _ c.in_err-temp.ensures.plan c.from_residual.ensures

pub returns-in_err-rename : goal.returns-in_err-rename
unfolding replaced
returns-in_err-rename g c = go _ c.in_ok-temp.ensures.plan (stop _ (c.in_err-rename.ensures _) c.from_residual-in_err-rename.ensures)

pub returns : goal.returns
unfolding replaced
returns g c = go _ c.in_ok-temp.ensures.plan (go _ (c.in_ok-rename.ensures _) (c.sync.ensures _))
