use Rattle.std.proofs.Common.{drop, sym, subst}
use Rattle.pick_expr.specs.declared.places.Places.{Places}
use Rattle.pick_expr.specs.Resting.{Passes}
use Rattle.pick_expr.proofs.resting.Resting.pass.Goals as goal

pub returns-then-is-clause-passes : goal.returns-then-is-clause-passes
returns-then-is-clause-passes c = λ elements to_end resting.
    subst (λ (z : Places). Passes elements to_end z (drop c.args.from c.args.line.now) (drop c.pass_idle.result c.args.line.now)) (sym (c.is.ensures c.if-is.true))
    (c.pass_idle.ensures.passes elements to_end resting)
