use Rattle.std.proofs.Common.{◌≡◌, drop, map}
use Rattle.mail_headers.specs.Fields.{first_value}
use Rattle.mail_headers.specs.View.{field_text}
use Rattle.format_run.proofs.indexed.IndexedMessage.first.Given as goal

abbrev pub invariant-loop-field : goal.invariant-loop-field
invariant-loop-field l = first_value l.name (map field_text (drop l.field-index l.field-items)) ≡ first_value l.name (map field_text l.field-items)
