use Rattle.std.proofs.Common.{◌∙◌, ap}
use Rattle.mail_headers.specs.Fields.{fields_of}
use Rattle.mh_profile.proofs.FoldedLines.{first_of}
use Rattle.mh_profile.proofs.lines.field_of.Goals as goal

pub returns : goal.returns
returns c = first_of c.args.line.now _ _ c.next.result (c.fields.ensures ∙ ap fields_of c.cut.ensures.bytes) c.next.ensures.steps
