-- What the code's words show.
use Rattle.mime_tree.specs.declared.content_type.RawType.{RawType}
use Rattle.mime_tree.specs.declared.token.Word.{Word}
use Rattle.mime_tree.specs.ContentTypes.{Halves}
use Rattle.mime_tree.specs.Tokens.{Taken}

abbrev pub word_of : Word → Taken
word_of w = record { value = w.value.now; rest = w.rest.now }

abbrev pub halves_of : RawType → Halves
halves_of t = record { kind = word_of t.kind; subtype = word_of t.subtype }
