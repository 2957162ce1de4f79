use Rattle.step_plans.proofs.Drops.{cut_law}
use Rattle.step_plans.proofs.laws.cut_drops_are_stored.Goals as goal

pub returns : goal.returns
returns c = cut_law
