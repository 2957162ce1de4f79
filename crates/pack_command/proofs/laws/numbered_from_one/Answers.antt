use Rattle.pack_plans.proofs.InPlace.{in_order, just_places, told_places}
use Rattle.pack_command.proofs.laws.numbered_from_one.Goals as goal

pub returns-clause-order : goal.returns-clause-order
returns-clause-order c = λ run listing f runs. in_order listing runs run f

pub returns-clause-alone : goal.returns-clause-alone
returns-clause-alone c = λ run listing f runs all k. just_places listing runs run f all k

pub returns-clause-told : goal.returns-clause-told
returns-clause-told c = λ listing runs. told_places listing runs
