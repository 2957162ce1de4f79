use Rattle.step_plans.proofs.ContextChanges.{said_so, not_said, all_said}
use Rattle.step_plans.proofs.change.says.Goals as goal

pub returns-then-not-said : goal.returns-then-not-said
returns-then-not-said c = not_said _ _ _ _ _ _ c.loop-change-test.true c.change-item.is c.in_ok-said.ensures c.if-not-said.true c.loop-change.invariant

pub loop-change-preserved : goal.loop-change-preserved
loop-change-preserved c = said_so _ _ _ _ _ _ c.loop-change-test.true c.change-item.is c.in_ok-said.ensures c.if-not-said.false c.loop-change.invariant

pub returns : goal.returns
returns c = all_said _ _ _ _ c.loop-change-test.false c.loop-change.invariant
