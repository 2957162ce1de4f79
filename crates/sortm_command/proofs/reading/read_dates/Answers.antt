use Rattle.std.proofs.Common.{refl}
use Rattle.file_plans.proofs.Following.{go, no_room, stop}
use Rattle.sortm_plans.proofs.Keyed.{end, turn}
use Rattle.sortm_command.proofs.reading.read_dates.Goals as goal

pub returns-in_err-message : goal.returns-in_err-message
returns-in_err-message g c = λ h. c.loop-number.invariant h _ _ (turn _ _ _ _ _ _ _ _ _ _ c.loop-number-test.true c.number-item.is (stop _ (c.in_err-message.ensures h) c.from_residual.ensures))

pub returns-in_err-date : goal.returns-in_err-date
returns-in_err-date g c = λ h. c.loop-number.invariant h _ _ (turn _ _ _ _ _ _ _ _ _ _ c.loop-number-test.true c.number-item.is (go _ (c.in_ok-message.ensures h) (no_room _ c.from_residual-in_err-date.ensures refl)))

pub returns-in_err-push : goal.returns-in_err-push
returns-in_err-push g c = λ h. c.loop-number.invariant h _ _ (turn _ _ _ _ _ _ _ _ _ _ c.loop-number-test.true c.number-item.is (go _ (c.in_ok-message.ensures h) (no_room _ c.from_residual-in_err-push.ensures refl)))

pub loop-number-preserved : goal.loop-number-preserved
loop-number-preserved g c = λ h z r f. c.loop-number.invariant h z r (turn _ _ _ _ _ _ _ _ _ _ c.loop-number-test.true c.number-item.is (go _ (c.in_ok-message.ensures h) (rw (c.in_ok-push.ensures.ok, c.in_ok-date.ensures, c.as_slice.ensures) at f)))

pub returns : goal.returns
returns g c = λ h. c.loop-number.invariant h _ _ (end _ _ _ _ _ _ _ c.loop-number-test.false)
