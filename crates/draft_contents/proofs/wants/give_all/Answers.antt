use Rattle.std.proofs.Common.{refl}
use Rattle.file_plans.proofs.Following.{go, no_room, stop}
use Rattle.draft_contents.proofs.Turns.{none_left, one_given}
use Rattle.draft_contents.proofs.wants.give_all.Goals as goal

pub loop-want-init : goal.loop-want-init
loop-want-init g c = λ z r f. rw c.new-givens.ensures at f

pub returns-in_err-given : goal.returns-in_err-given
returns-in_err-given g c = c.loop-want.invariant _ _ (one_given _ _ _ _ _ _ _ _ _ _ c.loop-want-test.true c.want-item.is (stop _ c.in_err-given.ensures c.from_residual.ensures))

pub returns-in_err-push : goal.returns-in_err-push
returns-in_err-push g c = c.loop-want.invariant _ _ (one_given _ _ _ _ _ _ _ _ _ _ c.loop-want-test.true c.want-item.is (go _ c.in_ok-given.ensures (no_room _ c.from_residual-in_err-push.ensures refl)))

pub loop-want-preserved : goal.loop-want-preserved
loop-want-preserved g c = λ z r f. c.loop-want.invariant z r (one_given _ _ _ _ _ _ _ _ _ _ c.loop-want-test.true c.want-item.is (go _ c.in_ok-given.ensures (rw c.in_ok-push.ensures.ok at f)))

pub returns : goal.returns
returns g c = c.loop-want.invariant _ _ (none_left _ _ _ _ _ _ _ c.loop-want-test.false)
