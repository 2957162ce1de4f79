-- What the code's attributes show.
use Rattle.mime_tree.specs.Tokens.{unprotected}
use Rattle.mh_drafts.specs.declared.attributes.Attributes.{Attributes}
use Rattle.mh_drafts.specs.declared.attributes.RawAttribute.{RawAttribute}
use Rattle.mh_drafts.specs.declared.label.Attribute.{Attribute}
use Rattle.mh_drafts.specs.Attributes.{TakenAttribute, TakenAttributes}

abbrev pub attribute_of : RawAttribute → Attribute
attribute_of a = record { name = a.name.now; value = unprotected a.value.now }

abbrev pub taken_of : RawAttribute → TakenAttribute
taken_of a = record { attribute = attribute_of a; rest = a.rest.now }

abbrev pub all_taken : Attributes → TakenAttributes
all_taken a = record { attributes = a.list; rest = a.rest.now }
