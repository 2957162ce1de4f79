use Rattle.step_plans.proofs.Taken.{taken, taken_within}
use Rattle.step_plans.proofs.laws.never_taken.Goals as goal

pub returns : goal.returns
returns c = record { step = taken; within = taken_within }
