-- The directive that makes a file a part.
use Rattle.std.specs.Prelude.{ℕ, ◌==◌, ◌||◌, Bool, false, bytes_eq, codes, List, map, length, Option, Some, None, if◌then◌else◌}
use Rattle.std.specs.Char.{to_ascii_lowercase}
use Rattle.mail_headers.specs.Unfolding.{unfolded}
use Rattle.mh_drafts.specs.declared.directive.Directive.{Directive}
use Rattle.mh_drafts.specs.declared.directive.Directive.TheVariants.{Part, Wrong}
use Rattle.mh_drafts.specs.declared.item.Leaf.TheVariants.{File as file_leaf}
use Rattle.mh_drafts.specs.declared.label.Attribute.{Attribute}
use Rattle.mh_drafts.specs.declared.label.Label.{Label}
use Rattle.mh_drafts.specs.declared.want.Want.TheVariants.{File as file_want}
use Rattle.mh_drafts.specs.Attributes.{TakenAttributes, attributes_in}
use Rattle.mh_drafts.specs.Trails.{TakenHeading, TakenTrail, heading_in, trail_in}

abbrev pub label_with : TakenHeading → List Attribute → TakenTrail → Label
label_with heading attributes trail = record {
  kind = map to_ascii_lowercase heading.kind;
  subtype = map to_ascii_lowercase heading.subtype;
  attributes = attributes;
  comment = trail.comment;
  id = trail.id;
  description = trail.description;
  disposition = trail.disposition;
}

-- no file is named, or its type is that of multiparts
abbrev pub is_no_file : Label → List ℕ → Bool
is_no_file label file = length file == 0 || bytes_eq label.kind (codes "multipart")

-- a file with this label, below the current directory unless its path is absolute
unfoldable pub labelled : Label → List ℕ → Directive
labelled label file =
    if is_no_file label file then Wrong else Part (file_leaf label) (file_want (record { home = false; text = file }))

-- the file is the rest of the line, without the blanks at its ends
abbrev pub file_part : TakenHeading → List Attribute → TakenTrail → Directive
file_part heading attributes trail = labelled (label_with heading attributes trail) (unfolded trail.file)

abbrev pub with_trail : TakenHeading → List Attribute → Option TakenTrail → Directive
with_trail heading attributes None = Wrong
with_trail heading attributes (Some trail) = file_part heading attributes trail

abbrev pub with_attributes : TakenHeading → Option TakenAttributes → Directive
with_attributes heading None = Wrong
with_attributes heading (Some a) = with_trail heading a.attributes (trail_in a.rest)

abbrev pub with_heading : Option TakenHeading → Directive
with_heading None = Wrong
with_heading (Some heading) = with_attributes heading (attributes_in heading.rest)

-- `type/subtype; attribute=value (comment) <id> [description] {disposition} file`
abbrev pub part_in : List ℕ → Directive
part_in text = with_heading (heading_in text)
