use Rattle.message_order.proofs.Filling.{all_filled, are_filled, one_filled}
use Rattle.message_order.proofs.dates.filled_dates.Goals as goal

pub loop-date-preserved : goal.loop-date-preserved
loop-date-preserved c =
    one_filled c.args.dates.now c.loop-date.keys.items c.push.new.self.items c.loop-date.last c.later-last.result _ c.loop-date.date-index c.loop-date-test.true c.later-last.ensures
    c.in_ok-push.ensures.items c.loop-date.invariant

pub returns : goal.returns
returns c =
    are_filled c.args.dates.now c.loop-date.keys.items
    (all_filled c.args.dates.now c.loop-date.keys.items c.loop-date.last c.loop-date.date-index c.loop-date-test.false c.loop-date.invariant)
