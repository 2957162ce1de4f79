use Rattle.std.proofs.Common.{◌++◌, ap, refl, ◌∙◌}
use Rattle.file_plans.proofs.Following.{no_room}
use Rattle.message_notes.proofs.Limits.{not_long, too_long}
use Rattle.message_notes.proofs.storing.with_lines.Goals as goal

pub returns-in_err-new : goal.returns-in_err-new
returns-in_err-new c = λ run x. no_room _ c.from_residual.ensures refl

pub returns-in_err-extend : goal.returns-in_err-extend
returns-in_err-extend c = λ run x. no_room _ c.from_residual-in_err-extend.ensures refl

pub returns-then-length-gt-LIMIT : goal.returns-then-length-gt-LIMIT
returns-then-length-gt-LIMIT c = λ run x. too_long run x (c.args.lines.now ++ c.args.bytes.now) c.extend.new.self c.len-length.result (c.in_ok-extend.ensures.ok ∙ ap (λ l. l ++ c.args.bytes.now) c.in_ok-new.ensures) c.len-length.ensures c.if-length-gt-LIMIT.true

pub returns : goal.returns
returns c = λ run x. not_long run x (c.args.lines.now ++ c.args.bytes.now) c.extend.new.self c.len-length.result (c.in_ok-extend.ensures.ok ∙ ap (λ l. l ++ c.args.bytes.now) c.in_ok-new.ensures) c.len-length.ensures c.if-length-gt-LIMIT.false
