use Rattle.std.proofs.Common.{refl, ◌∙◌}
use Rattle.file_plans.proofs.Following.{go, no_room, stop}
use Rattle.message_moves.proofs.Turns.{none_copied, one_copied}
use Rattle.message_moves.proofs.copying.copy_to_all.Goals as goal

pub returns-in_err-one-clause-plan : goal.returns-in_err-one-clause-plan
returns-in_err-one-clause-plan g c =
    let i = c.loop-destination.invariant in i.3 _ _ (one_copied _ _ _ _ _ _ c.loop-destination-test.true c.destination-item.is (stop _ (rw (i.0, i.2) at c.in_err-one.ensures.plan) c.from_residual.ensures))

pub returns-in_err-push-clause-plan : goal.returns-in_err-push-clause-plan
returns-in_err-push-clause-plan g c =
    let i = c.loop-destination.invariant in
    i.3 _ _ (one_copied _ _ _ _ _ _ c.loop-destination-test.true c.destination-item.is (go _ (rw (i.0, i.2) at c.in_ok-one.ensures.plan) (no_room _ c.from_residual-in_err-push.ensures refl)))

pub loop-destination-preserved : goal.loop-destination-preserved
loop-destination-preserved g c =
    let i = c.loop-destination.invariant in (
      c.in_ok-one.ensures.same.0 ∙ i.0,
      c.in_ok-one.ensures.same.1 ∙ i.1,
      c.in_ok-one.ensures.bytes ∙ i.2,
      λ z r f. i.3 z r (one_copied _ _ _ _ _ _ c.loop-destination-test.true c.destination-item.is (go _ (rw (i.0, i.2) at c.in_ok-one.ensures.plan) (rw (← c.in_ok-push.ensures.ok) f))),
    )

pub returns-clause-plan : goal.returns-clause-plan
returns-clause-plan g c = c.loop-destination.invariant.3 _ _ (none_copied _ _ _ _ _ c.loop-destination-test.false)
