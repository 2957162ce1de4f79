use Rattle.std.proofs.Common.{◌≡◌}
use Rattle.mail_headers.specs.Fields.{fields_of}
use Rattle.mail_headers.specs.Walk.{fields_left}
use Rattle.pick_expr.specs.Values.{some_line}
use Rattle.pick_expr.proofs.truth.some_field_line_matches.Given as goal

abbrev pub invariant-loop-field : goal.invariant-loop-field
invariant-loop-field l =
    (goal.iterator-loop-field).can_next l.field-iterator
    × (goal.iterator-loop-field).is_finite l.field-iterator
    × (some_line l.pattern (fields_left l.field-iterator) ≡ some_line l.pattern (fields_of l.message))
