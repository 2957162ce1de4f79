use Rattle.mh_drafts.proofs.Drafting.{body_right, body_wrong, field_wrong}
use Rattle.mh_drafts.proofs.Reading.{has_parts}
use Rattle.mh_drafts.proofs.draft.Draft.read.Goals as goal

pub returns-in-Reserved-clause-refused : goal.returns-in-Reserved-clause-refused
returns-in-Reserved-clause-refused c = field_wrong c.cut-message.result c.args.bytes.now c.in-Reserved.rest.now c.line_at.result c.cut-message.ensures.bytes c.in-Reserved.ensures.0 c.line_at.ensures.value

pub returns-in-Err-clause-refused : goal.returns-in-Err-clause-refused
returns-in-Err-clause-refused c = body_wrong c.cut-message.result c.args.bytes.now c.body.result.now c.in-Err.fault c.cut-message.ensures.bytes c.in-Behind.ensures.0 c.body.ensures c.in-Err.ensures.refused

pub returns-clause-right : goal.returns-clause-right
returns-clause-right c = body_right c.cut-message.result c.args.bytes.now c.body.result.now _ _ c.cut-message.ensures.bytes c.in-Behind.ensures.0 c.body.ensures c.in-Ok.ensures.items

pub returns-clause-parts : goal.returns-clause-parts
returns-clause-parts c = has_parts c.body.result.now _ c.in-Ok.ensures.items.right c.in-Ok.ensures.items.items_are
