use Rattle.step_plans.proofs.Told.{durable_told}
use Rattle.step_plans.proofs.laws.durable_by_own_steps.Goals as goal

pub returns : goal.returns
returns c = λ start past st l careful none r p b w. durable_told start r p b st l careful none w
