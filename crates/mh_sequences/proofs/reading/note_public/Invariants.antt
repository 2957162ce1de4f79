use Rattle.mail_headers.specs.Fields.{fields_of}
use Rattle.mail_headers.specs.Walk.{fields_left}
use Rattle.mh_sequences.proofs.Mentioning.{IsPublicSoFar}
use Rattle.mh_sequences.proofs.reading.note_public.Given as goal

abbrev pub invariant-loop-field : goal.invariant-loop-field
invariant-loop-field l =
    (goal.iterator-loop-field).can_next l.field-iterator
    × (goal.iterator-loop-field).is_finite l.field-iterator
    × IsPublicSoFar (fields_of l.text) (fields_left l.field-iterator) l.mentions
