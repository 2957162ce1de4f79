-- What the code's brackets, trails and headings show.
use Rattle.std.specs.Prelude.{option_map}
use Rattle.mh_drafts.specs.declared.enclosed.Enclosed.{Enclosed}
use Rattle.mh_drafts.specs.declared.trail.Heading.{Heading}
use Rattle.mh_drafts.specs.declared.trail.Trail.{Trail}
use Rattle.mh_drafts.specs.Enclosed.{TakenEnclosed}
use Rattle.mh_drafts.specs.Trails.{TakenHeading, TakenTrail}

abbrev pub enclosed_of : Enclosed → TakenEnclosed
enclosed_of e = record { inside = option_map (λ i. i.now) e.inside; rest = e.rest.now }

abbrev pub heading_of : Heading → TakenHeading
heading_of h = record { kind = h.kind.now; subtype = h.subtype.now; rest = h.rest.now }

abbrev pub trail_of : Trail → TakenTrail
trail_of t = record {
  comment = option_map (λ i. i.now) t.comment;
  id = option_map (λ i. i.now) t.id;
  description = option_map (λ i. i.now) t.description;
  disposition = option_map (λ i. i.now) t.disposition;
  file = t.file.now;
}
