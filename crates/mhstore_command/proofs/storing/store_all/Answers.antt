use Rattle.std.proofs.Common.{◌∙◌}
use Rattle.file_plans.proofs.Following.{go, stop}
use Rattle.mhstore_plans.proofs.Turns.{stored_end, stored_turn}
use Rattle.mhstore_command.proofs.storing.store_all.Goals as goal

pub returns-in_err-store_one-clause-plan : goal.returns-in_err-store_one-clause-plan
returns-in_err-store_one-clause-plan g c =
    let i = c.loop-number.invariant in i.2 _ _ (stored_turn _ _ _ _ _ _ c.loop-number-test.true c.number-item.is (stop _ (rw i.0 at c.in_err-store_one.ensures.plan) c.from_residual.ensures))

pub loop-number-preserved : goal.loop-number-preserved
loop-number-preserved g c =
    let i = c.loop-number.invariant in (
      c.in_ok-store_one.ensures.same.0 ∙ i.0,
      c.in_ok-store_one.ensures.same.1 ∙ i.1,
      λ z r f. i.2 z r (stored_turn _ _ _ _ _ _ c.loop-number-test.true c.number-item.is (go _ (rw i.0 at c.in_ok-store_one.ensures.plan) f)),
    )

pub returns-clause-plan : goal.returns-clause-plan
returns-clause-plan g c = c.loop-number.invariant.2 _ _ (stored_end _ _ _ _ _ c.loop-number-test.false)
