use Rattle.refile_plans.proofs.RoomLeft.{all_mapped, next_mapped}
use Rattle.refile_command.proofs.destinations.destinations.Goals as goal

pub loop-one-preserved : goal.loop-one-preserved
loop-one-preserved c = next_mapped _ _ _ _ _ _ c.loop-one-test.true c.one-item.is c.in_ok-destination.ensures c.in_ok-push.ensures.ok c.loop-one.invariant

pub returns : goal.returns
returns c = all_mapped _ _ _ c.loop-one-test.false c.loop-one.invariant
