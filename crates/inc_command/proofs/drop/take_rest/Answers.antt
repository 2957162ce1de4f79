use Rattle.std.proofs.Common.{refl, ◌∙◌}
use Rattle.inc_plans.proofs.Rest.{on_all, on_more, on_none, on_stop}
use Rattle.inc_command.proofs.drop.take_rest.Goals as goal

pub loop-at-init : goal.loop-at-init
loop-at-init g c = (c.requires, refl, refl, λ has. on_none _ _ _ _ _ _ has)

pub returns-in_err-taken-clause-takes : goal.returns-in_err-taken-clause-takes
returns-in_err-taken-clause-takes g c = λ has.
    let i = c.loop-at.invariant in
    on_stop _ _ _ _ _ _ _ _ _ _ (i.3 has) c.loop-at-test.true _ _ _ (λ d there long. rw i.1 at (c.in_err-taken.ensures.takes d there long)) _ c.from_residual.ensures

pub loop-at-preserved : goal.loop-at-preserved
loop-at-preserved g c =
    let i = c.loop-at.invariant in (
      c.in_ok-taken.ensures.range,
      c.in_ok-taken.ensures.same.0 ∙ i.1,
      c.in_ok-taken.ensures.same.1 ∙ i.2,
      λ has. on_more _ _ _ _ _ _ _ _ _ _ (i.3 has) c.loop-at-test.true _ c.min-at.ensures _ _ _ (λ d there long. rw i.1 at (c.in_ok-taken.ensures.takes d there long)),
    )

pub returns-clause-takes : goal.returns-clause-takes
returns-clause-takes g c = λ has. let i = c.loop-at.invariant in on_all _ _ _ _ _ _ _ _ _ _ (i.3 has) c.loop-at-test.false
