use Rattle.std.proofs.Common.{refl, ◌∙◌}
use Rattle.file_plans.proofs.Following.{no_room}
use Rattle.inc_plans.proofs.Takes.{none_left, one_less, take_next, take_none, take_stops}
use Rattle.inc_command.proofs.intake.take_all.Goals as goal

pub returns-in_err-number-clause-plan : goal.returns-in_err-number-clause-plan
returns-in_err-number-clause-plan g c =
    let i = c.loop-message.invariant in
    i.6 _ _ (take_stops _ _ _ _ _ _ _ _ c.in-Some.ensures.steps.0 _ _ _ _ (rw (i.3, c.as_slice.ensures) at c.in_err-number.ensures.plan) c.from_residual.ensures)

pub returns-in_err-push-clause-plan : goal.returns-in_err-push-clause-plan
returns-in_err-push-clause-plan g c =
    let i = c.loop-message.invariant in
    i.6 _ _ (take_next _ _ _ _ _ _ _ _ c.in-Some.ensures.steps.0 c.in_ok-number.number _ refl _ _ _ _ (rw (i.3, c.as_slice.ensures) at c.in_ok-number.ensures.plan) (no_room _ c.from_residual-in_err-push.ensures refl))

pub loop-message-preserved : goal.loop-message-preserved
loop-message-preserved g c =
    let i = c.loop-message.invariant in (
      tt,
      tt,
      c.get.ensures.range.1,
      c.in_ok-number.ensures.same.0 ∙ i.3,
      c.in_ok-number.ensures.same.1 ∙ i.4,
      one_less _ _ _ _ _ c.in-Some.ensures.steps.0 c.in-Some.ensures.steps.1 i.5,
      λ z r k. i.6 z r (take_next _ _ _ _ _ _ _ _ c.in-Some.ensures.steps.0 c.in_ok-number.number _ (λ j. record { numbers = c.in_ok-push.ensures.ok j; highest = c.get.ensures.value j }) _ _ z r (rw (i.3, c.as_slice.ensures) at c.in_ok-number.ensures.plan) k),
    )

pub returns-clause-plan : goal.returns-clause-plan
returns-clause-plan g c = let i = c.loop-message.invariant in i.6 _ _ (take_none _ _ _ _ _ _ (none_left _ _ c.in-None.ensures.steps.0 i.5) _)
