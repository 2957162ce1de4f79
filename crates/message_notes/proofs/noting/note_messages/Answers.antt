use Rattle.std.proofs.Common.{◌∙◌, arith}
use Rattle.file_plans.proofs.Following.{go, stop}
use Rattle.message_notes.proofs.Turns.{noted_end, noted_turn}
use Rattle.message_notes.proofs.noting.note_messages.Goals as goal

pub returns-in_err-end-clause-plan : goal.returns-in_err-end-clause-plan
returns-in_err-end-clause-plan g c =
    let i = c.loop-number.invariant in i.3 _ _ (noted_turn _ _ _ _ _ _ _ c.loop-number-test.true c.number-item.is (stop _ (rw i.0 at c.in_err-end.ensures.plan) c.from_residual.ensures))

pub loop-number-preserved : goal.loop-number-preserved
loop-number-preserved g c =
    let i = c.loop-number.invariant in (
      c.in_ok-end.ensures.same.0 ∙ i.0,
      c.in_ok-end.ensures.same.1 ∙ i.1,
      omega (arith, c.max-top.ensures, i.2, c.get.ensures.range.1),
      λ z r f. i.3 z r (noted_turn _ _ _ _ _ _ _ c.loop-number-test.true c.number-item.is (go _ (rw i.0 at c.in_ok-end.ensures.plan) (rw (c.max-top.ensures, c.get.ensures.value) at f))),
    )

pub returns-clause-plan : goal.returns-clause-plan
returns-clause-plan g c = c.loop-number.invariant.3 _ _ (noted_end _ _ _ _ _ _ c.loop-number-test.false)
