use Rattle.file_plans.proofs.Following.{go, stop}
use Rattle.held_messages.proofs.Upward.{below_first, below_second, one_drop, drops_end}
use Rattle.held_messages.proofs.putting_back.drop_all.Goals as goal

pub returns-in_err-drop_one : goal.returns-in_err-drop_one
returns-in_err-drop_one g c = λ h.
    c.loop-at.invariant h _ _
    (one_drop _ _ _ _ _ _ _ (below_first _ _ _ _ c.min-at-end.ensures c.loop-at-test.true) (below_second _ _ _ _ c.min-at-end.ensures c.loop-at-test.true) c.index-pairs-at.is c.index-ends-at.is
    (stop _ (c.in_err-drop_one.ensures h) c.from_residual.ensures))

pub loop-at-preserved : goal.loop-at-preserved
loop-at-preserved g c = λ h z r f.
    c.loop-at.invariant h z r
    (one_drop _ _ _ _ _ _ _ (below_first _ _ _ _ c.min-at-end.ensures c.loop-at-test.true) (below_second _ _ _ _ c.min-at-end.ensures c.loop-at-test.true) c.index-pairs-at.is c.index-ends-at.is
    (go _ (c.in_ok-drop_one.ensures h) f))

pub returns : goal.returns
returns g c = λ h. c.loop-at.invariant h _ _ (drops_end _ _ _ _ _ (rw c.min-at-end.ensures at c.loop-at-test.false))
