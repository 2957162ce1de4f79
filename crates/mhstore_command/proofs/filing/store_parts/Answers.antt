use Rattle.std.proofs.Common.{◌∙◌}
use Rattle.file_plans.proofs.Following.{go, stop}
use Rattle.part_rows.specs.FileNames.{file_of}
use Rattle.part_rows.specs.PartViews.{view_of}
use Rattle.mhstore_plans.proofs.Turns.{filed_end, filed_turn}
use Rattle.mhstore_command.proofs.filing.store_parts.Goals as goal

pub returns-in_err-store_part-clause-plan : goal.returns-in_err-store_part-clause-plan
returns-in_err-store_part-clause-plan g c =
    let i = c.loop-part.invariant in
    i.2 _ _ (filed_turn _ _ (λ p. file_of c.args.number (view_of c.args.message.now p.now)) _ _ _ c.loop-part-test.true c.part-item.is (stop _ (rw i.0 at c.in_err-store_part.ensures.plan) c.from_residual.ensures))

pub loop-part-preserved : goal.loop-part-preserved
loop-part-preserved g c =
    let i = c.loop-part.invariant in (
      c.in_ok-store_part.ensures.same.0 ∙ i.0,
      c.in_ok-store_part.ensures.same.1 ∙ i.1,
      λ z r f. i.2 z r (filed_turn _ _ (λ p. file_of c.args.number (view_of c.args.message.now p.now)) _ _ _ c.loop-part-test.true c.part-item.is (go _ (rw i.0 at c.in_ok-store_part.ensures.plan) f)),
    )

pub returns-clause-plan : goal.returns-clause-plan
returns-clause-plan g c = c.loop-part.invariant.2 _ _ (filed_end _ _ (λ p. file_of c.args.number (view_of c.args.message.now p.now)) _ _ c.loop-part-test.false)
