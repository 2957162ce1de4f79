use Rattle.std.proofs.Common.{refl}
use Rattle.held_messages.proofs.Upward.{later_put, all_put}
use Rattle.held_messages.proofs.putting_back.last_number.Goals as goal

pub loop-end-init : goal.loop-end-init
loop-end-init c = refl

pub loop-end-preserved : goal.loop-end-preserved
loop-end-preserved c = later_put _ _ _ _ _ c.loop-end-test.true c.end-item.is c.later-last.ensures c.loop-end.invariant

pub returns : goal.returns
returns c = all_put _ _ _ c.loop-end-test.false c.loop-end.invariant
