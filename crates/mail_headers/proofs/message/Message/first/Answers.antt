use Rattle.std.proofs.Common.{sym, ◌∙◌, ap}
use Rattle.mail_headers.specs.Fields.{first_value}
use Rattle.mail_headers.specs.View.{field_text}
use Rattle.mail_headers.proofs.Names.{first_here}
use Rattle.mail_headers.proofs.message.Message.first.Goals as goal

pub returns-then-eq_ignore_ascii_case : goal.returns-then-eq_ignore_ascii_case
returns-then-eq_ignore_ascii_case c =
    sym c.loop-field.invariant.2
    ∙ ap (first_value c.args.name.now) c.in-Some.ensures.steps
    ∙ first_here c.args.name.now (field_text c.in-Some.field) _ (c.eq_ignore_ascii_case.ensures.test.0 c.if-eq_ignore_ascii_case.true)
