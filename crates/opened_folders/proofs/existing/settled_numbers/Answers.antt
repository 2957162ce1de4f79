use Rattle.opening_plans.proofs.ExistingNumbers.{all_numbers}
use Rattle.opened_folders.proofs.existing.settled_numbers.Goals as goal

pub returns : goal.returns
returns c = all_numbers _ _ _ _ c.in_ok-existing.ensures c.into_set.ensures.numbers c.into_set.ensures.valid
