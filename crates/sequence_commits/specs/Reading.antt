-- The sequences of a folder, as a function of its text and of the context's entries.
use Rattle.std.specs.Prelude.{ℕ, ◌+◌, ◌-◌, ◌||◌, Bool, List, ◌++◌, length, map, take, drop}
use Rattle.mail_headers.specs.Fields.{FieldText, fields_of}
use Rattle.mh_profile.specs.declared.named_value.NamedValue.{NamedValue}
use Rattle.mh_sequences.specs.Reading.{cur_in, has_field, lists_private, lists_public, suffix}
use Rattle.mh_sequences.specs.Sequences.{Marked, marked_of}
use Rattle.sequence_commits.specs.Together.{sequences_of}

-- what stands in the name of an entry behind `atr-` and before an ending of this length
abbrev pub inner_name : ℕ → List ℕ → List ℕ
inner_name long name = take (length name - (4 + long)) (drop 4 name)

-- the names that a text's fields and a context's entries speak of
abbrev pub names_in : List FieldText → List NamedValue → List ℕ → List (List ℕ)
names_in fields context ending = map (λ f. f.name) fields ++ map (λ e. inner_name (length ending) e.name) context

-- a field of this name lists the number, or an entry of this sequence and folder
abbrev pub lists_either : List FieldText → List NamedValue → List ℕ → List ℕ → ℕ → Bool
lists_either fields context ending name n = lists_public fields name n || lists_private context ending name n

-- the sequences of a folder: the numbers of both, public those that the text has, and the text's current message
unfoldable pub sequences_in : List ℕ → List NamedValue → List ℕ → Marked
sequences_in text context folder =
    let fields = fields_of text in
    let ending = suffix folder in
    marked_of (sequences_of (names_in fields context ending) (lists_either fields context ending) (has_field fields))
    (cur_in fields)
