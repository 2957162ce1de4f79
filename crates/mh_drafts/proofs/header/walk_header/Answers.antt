use Rattle.std.proofs.Common.{sym, ◌∙◌}
use Rattle.mail_headers.specs.View.{field_text}
use Rattle.mh_drafts.proofs.Heading.{walk_ends, walk_goes, walk_stops}
use Rattle.mh_drafts.proofs.header.walk_header.Goals as goal

pub returns-then-is_reserved : goal.returns-then-is_reserved
returns-then-is_reserved c =
    (walk_stops c.args.message.now c.loop-field.rest.now _ _ (field_text c.in-Some.field) (sym c.is_reserved.ensures ∙ c.if-is_reserved.true) c.in-Some.ensures.steps c.loop-field.invariant.2, c.loop-field.invariant.2.inside)

pub loop-field-preserved : goal.loop-field-preserved
loop-field-preserved c = (
  tt,
  tt,
  walk_goes c.args.message.now c.loop-field.rest.now c.split_at.result.1.now _ _ (field_text c.in-Some.field) c.folded_line_len.result (sym c.is_reserved.ensures ∙ c.if-is_reserved.false) c.in-Some.ensures.steps c.folded_line_len.ensures.value c.split_at.ensures.back c.loop-field.invariant.2,
)

pub returns : goal.returns
returns c = walk_ends c.args.message.now c.loop-field.rest.now _ c.in-None.ensures.steps.0 c.loop-field.invariant.2
