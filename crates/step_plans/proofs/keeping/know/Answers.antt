use Rattle.step_plans.proofs.Naming.{knows}
use Rattle.step_plans.proofs.keeping.know.Goals as goal

pub returns : goal.returns
returns c = λ run f. knows _ _ _ _ _ c.saw_context.ensures
