use Rattle.pick_expr.specs.Signs.{behind_all, day_of}
use Rattle.pick_expr.proofs.ItemByItem.{end_ok, end_err, fault_next, is_on_next}
use Rattle.pick_expr.proofs.expr.read_items.Goals as goal

pub returns-in-Err-clause-err : goal.returns-in-Err-clause-err
returns-in-Err-clause-err c = λ today is_today.
    fault_next (day_of today c.args.setting.now.offset_minutes) c.args.items.now c.loop-item.item-index c.item-item.result c.loop-item.progress c.in-Err.fault
    (c.loop-item.invariant today is_today) c.loop-item-test.true c.item-item.is (c.in-Err.ensures.err today is_today) (behind_all c.args.items.now)

pub loop-item-preserved : goal.loop-item-preserved
loop-item-preserved c = λ today is_today.
    is_on_next (day_of today c.args.setting.now.offset_minutes) c.args.items.now c.loop-item.item-index c.item-item.result c.loop-item.progress c.take_item.new.self
    (c.loop-item.invariant today is_today) c.loop-item-test.true c.item-item.is (c.in-Ok.ensures.ok today is_today)

pub returns-clause-ok : goal.returns-clause-ok
returns-clause-ok c = λ today is_today.
    end_ok (day_of today c.args.setting.now.offset_minutes) c.args.items.now c.loop-item.item-index c.loop-item.progress (behind_all c.args.items.now) c.finish.result
    (c.loop-item.invariant today is_today) c.loop-item-test.false c.finish.ensures.ok (rw c.end_of.ensures at c.finish.ensures.fine)

pub returns-clause-err : goal.returns-clause-err
returns-clause-err c = λ today is_today.
    end_err (day_of today c.args.setting.now.offset_minutes) c.args.items.now c.loop-item.item-index c.loop-item.progress (behind_all c.args.items.now) c.finish.result
    (c.loop-item.invariant today is_today) c.loop-item-test.false (rw c.end_of.ensures at c.finish.ensures.err)
