use Rattle.std.proofs.Common.{refl}
use Rattle.file_plans.proofs.Following.{go, no_room, stop}
use Rattle.pick_plans.proofs.Loops.{end, turn}
use Rattle.pick_command.proofs.testing.test_all.Goals as goal

pub returns-in_err-matches : goal.returns-in_err-matches
returns-in_err-matches g c = λ h. c.loop-number.invariant h _ _ (turn _ _ _ _ _ _ _ _ _ _ c.loop-number-test.true c.number-item.is (stop _ (c.in_err-matches.ensures h) c.from_residual.ensures))

pub returns-in_err-push_if : goal.returns-in_err-push_if
returns-in_err-push_if g c = λ h. c.loop-number.invariant h _ _ (turn _ _ _ _ _ _ _ _ _ _ c.loop-number-test.true c.number-item.is (go _ (c.in_ok-matches.ensures h) (no_room _ c.from_residual-in_err-push_if.ensures refl)))

pub loop-number-preserved : goal.loop-number-preserved
loop-number-preserved g c = λ h z r f. c.loop-number.invariant h z r (turn _ _ _ _ _ _ _ _ _ _ c.loop-number-test.true c.number-item.is (go _ (c.in_ok-matches.ensures h) (rw c.in_ok-push_if.ensures at f)))

pub returns : goal.returns
returns g c = λ h. c.loop-number.invariant h _ _ (end _ _ _ _ _ _ _ c.loop-number-test.false)
