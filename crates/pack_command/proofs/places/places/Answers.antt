use Rattle.pack_plans.proofs.Counted.{one_placed}
use Rattle.pack_command.proofs.places.places.Goals as goal

pub loop-k-preserved : goal.loop-k-preserved
loop-k-preserved c = one_placed _ _ _ _ c.message_number.ensures c.in_ok-push.ensures.ok c.loop-k.invariant
