use Rattle.std.proofs.Common.{◌≡◌, ℕ, List}
use Rattle.std.specs.Prelude.{◌||◌}
use Rattle.mail_headers.specs.Fields.{fields_of}
use Rattle.mail_headers.specs.Walk.{fields_left}
use Rattle.mh_sequences.specs.FieldNames.{is_name_in}
use Rattle.mh_sequences.specs.Reading.{has_field}
use Rattle.mh_sequences.proofs.field_names.FieldNames.of.Given as goal

abbrev pub invariant-loop-field : goal.invariant-loop-field
invariant-loop-field l =
    (goal.iterator-loop-field).can_next l.field-iterator
    × (goal.iterator-loop-field).is_finite l.field-iterator
    × ((name : List ℕ) → is_name_in (record { names = l.names }) name || has_field (fields_left l.field-iterator) name ≡ has_field (fields_of l.text) name)
