use Rattle.std.proofs.Common.{◌≤◌, subst}
use Rattle.sortm_plans.proofs.MovesMade.{all_gone}
use Rattle.sortm_command.proofs.moving.moves.Goals as goal

pub returns : goal.returns
returns c = all_gone c.args.order.now c.args.places.now c.loop-i.moves c.loop-i.i (subst (λ n. n ≤ c.loop-i.i) c.min-i-end.ensures c.loop-i-test.false) c.loop-i.invariant
