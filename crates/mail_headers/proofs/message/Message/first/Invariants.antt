use Rattle.std.proofs.Common.{◌≡◌}
use Rattle.mail_headers.specs.Fields.{fields_of, first_value}
use Rattle.mail_headers.specs.Walk.{fields_left}
use Rattle.mail_headers.proofs.message.Message.first.Given as goal

abbrev pub invariant-loop-field : goal.invariant-loop-field
invariant-loop-field l =
    (goal.iterator-loop-field).can_next l.field-iterator
    × (goal.iterator-loop-field).is_finite l.field-iterator
    × (first_value l.name (fields_left l.field-iterator) ≡ first_value l.name (fields_of l.self))
