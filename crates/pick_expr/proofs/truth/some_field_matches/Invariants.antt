use Rattle.std.proofs.Common.{◌≡◌}
use Rattle.mail_headers.specs.Fields.{fields_of}
use Rattle.mail_headers.specs.Walk.{fields_left}
use Rattle.pick_expr.specs.Values.{fields_match}
use Rattle.pick_expr.proofs.truth.some_field_matches.Given as goal

abbrev pub invariant-loop-field : goal.invariant-loop-field
invariant-loop-field l =
    (goal.iterator-loop-field).can_next l.field-iterator
    × (goal.iterator-loop-field).is_finite l.field-iterator
    × (fields_match l.name l.pattern (fields_left l.field-iterator) ≡ fields_match l.name l.pattern (fields_of l.message))
