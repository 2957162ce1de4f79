use Rattle.std.proofs.Common.{◌∙◌}
use Rattle.format_run.proofs.FirstFields.{indexed, met, none_met, passed}
use Rattle.format_run.proofs.indexed.IndexedMessage.first.Goals as goal

pub returns-then-eq_ignore_ascii_case : goal.returns-then-eq_ignore_ascii_case
returns-then-eq_ignore_ascii_case c =
    indexed c.args.name.now c.as_slice-field-items.result.now c.self.inside.fields.items _ _ c.as_slice-field-items.ensures.value c.self.invariant c.self.view_is
    ∙ met c.args.name.now c.as_slice-field-items.result.now c.loop-field.field-index _ c.loop-field-test.true (c.eq_ignore_ascii_case.ensures.test.0 c.if-eq_ignore_ascii_case.true) c.loop-field.invariant

pub loop-field-preserved : goal.loop-field-preserved
loop-field-preserved c =
    passed c.args.name.now c.as_slice-field-items.result.now c.loop-field.field-index _ c.eq_ignore_ascii_case.result c.loop-field-test.true c.eq_ignore_ascii_case.ensures.test.1 c.if-eq_ignore_ascii_case.false c.loop-field.invariant

pub returns : goal.returns
returns c =
    indexed c.args.name.now c.as_slice-field-items.result.now c.self.inside.fields.items _ _ c.as_slice-field-items.ensures.value c.self.invariant c.self.view_is
    ∙ none_met c.args.name.now c.as_slice-field-items.result.now c.loop-field.field-index c.loop-field-test.false c.loop-field.invariant
