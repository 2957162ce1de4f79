use Rattle.std.proofs.Common.{◌∙◌}
use Rattle.file_plans.proofs.Following.{go, stop}
use Rattle.message_moves.proofs.Turns.{copied_end, copied_turn}
use Rattle.message_moves.proofs.copying.copy_messages.Goals as goal

pub returns-in_err-later-clause-plan : goal.returns-in_err-later-clause-plan
returns-in_err-later-clause-plan g c =
    let i = c.loop-number.invariant in i.2 _ _ (copied_turn _ _ _ _ _ _ _ c.loop-number-test.true c.number-item.is (stop _ (rw (i.0, c.as_slice.ensures) at c.in_err-later.ensures.plan) c.from_residual.ensures))

pub loop-number-preserved : goal.loop-number-preserved
loop-number-preserved g c =
    let i = c.loop-number.invariant in (
      c.in_ok-later.ensures.same.0 ∙ i.0,
      c.in_ok-later.ensures.same.1 ∙ i.1,
      λ z r f. i.2 z r (copied_turn _ _ _ _ _ _ _ c.loop-number-test.true c.number-item.is (go _ (rw (i.0, c.as_slice.ensures) at c.in_ok-later.ensures.plan) f)),
    )

pub returns-clause-plan : goal.returns-clause-plan
returns-clause-plan g c = c.loop-number.invariant.2 _ _ (copied_end _ _ _ _ _ _ c.loop-number-test.false)
