use Rattle.std.proofs.Common.{refl}
use Rattle.file_plans.proofs.Following.{go_from, stop_from, no_room, refuses, done}
use Rattle.step_plans.proofs.Faulting.{stop_same}
use Rattle.step_plans.proofs.Trying.{no_tries, one_try}
use Rattle.step_plans.proofs.locking.lock.Goals as goal

pub returns-in_err-ask_lock : goal.returns-in_err-ask_lock
returns-in_err-ask_lock g c = λ h. c.loop-at.invariant h _ _ (one_try _ _ _ _ c.loop-at-test.true (stop_from _ stop_same (c.in_err-ask_lock.ensures h) c.from_residual.ensures))

pub returns-in-Done : goal.returns-in-Done
returns-in-Done g c = λ h. c.loop-at.invariant h _ _ (one_try _ _ _ _ c.loop-at-test.true (go_from _ _ (c.in_ok-ask_lock.ensures h) (rw c.in-Done.is done)))

pub returns-in_err-place_gone-in-Gone : goal.returns-in_err-place_gone-in-Gone
returns-in_err-place_gone-in-Gone g c = λ h. c.loop-at.invariant h _ _ (one_try _ _ _ _ c.loop-at-test.true (go_from _ _ (c.in_ok-ask_lock.ensures h) (no_room _ c.from_residual-in_err-place_gone-in-Gone.ensures refl)))

pub returns-in-Gone : goal.returns-in-Gone
returns-in-Gone g c = λ h. c.loop-at.invariant h _ _ (one_try _ _ _ _ c.loop-at-test.true (go_from _ _ (c.in_ok-ask_lock.ensures h) (rw (c.in-Gone.is, c.in_ok-place_gone-in-Gone.ensures) (refuses _ refl))))

pub loop-at-preserved : goal.loop-at-preserved
loop-at-preserved g c = λ h z r f. c.loop-at.invariant h z r (one_try _ _ _ _ c.loop-at-test.true (go_from _ _ (c.in_ok-ask_lock.ensures h) (rw c.in-Busy.is f)))

pub returns-in_err-duplicate : goal.returns-in_err-duplicate
returns-in_err-duplicate g c = λ h. c.loop-at.invariant h _ _ (no_room _ c.from_residual-in_err-duplicate.ensures refl)

pub returns : goal.returns
returns g c = λ h. c.loop-at.invariant h _ _ (no_tries _ _ _ _ c.loop-at-test.false (rw c.in_ok-duplicate.ensures (refuses _ refl)))
