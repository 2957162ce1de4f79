use Rattle.mail_headers.specs.Walk.{fields_left}
use Rattle.mh_drafts.proofs.Heading.{Walked}
use Rattle.mh_drafts.proofs.header.walk_header.Given as goal

abbrev pub invariant-loop-field : goal.invariant-loop-field
invariant-loop-field l =
    (goal.iterator-loop-field).can_next l.field-iterator
    × (goal.iterator-loop-field).is_finite l.field-iterator
    × Walked l.message l.rest (fields_left l.field-iterator)
