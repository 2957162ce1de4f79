use Rattle.std.proofs.Common.{sym, ◌∙◌}
use Rattle.mail_headers.proofs.Walking.{stepped, step_shorter, stopped}
use Rattle.mail_headers.proofs.message.behind_fields.Goals as goal

pub loop-smaller : goal.loop-smaller
loop-smaller c = step_shorter _ _ c.step.result c.step.ensures (sym c.is_some.ensures ∙ c.loop-test.true)

pub loop-preserved : goal.loop-preserved
loop-preserved c = stepped _ _ _ c.step.result c.step.ensures (sym c.is_some.ensures ∙ c.loop-test.true) c.loop.invariant

pub returns : goal.returns
returns c = c.rest.ensures ∙ stopped _ _ _ c.step.result c.step.ensures (sym c.is_some.ensures ∙ c.loop-test.false) c.loop.invariant
