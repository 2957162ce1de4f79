-- What a profile's text says.
use Rattle.std.specs.Prelude.{◌≡◌, ℕ, not, List, [], ◌∷◌, Option, None, Some, map, filter}
use Rattle.std.specs.List.{filter_map}
use Rattle.mail_headers.specs.Fields.{FieldText, field_in, first_field}
use Rattle.mail_headers.specs.Unfolding.{unfolded}
use Rattle.mh_profile.specs.declared.named_value.NamedValue.{NamedValue}
use Rattle.mh_profile.specs.Lines.{folded_lines}
use Rattle.mh_profile.specs.Names.{same_entry}

-- a field with its value on one line
abbrev pub entry_of : FieldText → NamedValue
entry_of f = record { name = f.name; value = unfolded f.value }

-- the lines that are fields, as entries; the others are passed over
abbrev pub listed : List (List ℕ) → List NamedValue
listed lines = map entry_of (filter_map field_in lines)

-- of each name the first entry alone
abbrev pub first_of_each : List NamedValue → List NamedValue
first_of_each [] = []
first_of_each (e ∷ es) = e ∷ filter (λ x. not (same_entry e.name x.name)) (first_of_each es)

-- the entries of a text: its lines with their continuations that are fields, the first of each name
unfoldable pub entries_in : List ℕ → List NamedValue
entries_in bytes = first_of_each (listed (folded_lines bytes))

-- what was found is the entry with which these bytes begin
abbrev pub IsEntryOf : List ℕ → Option NamedValue → Type 0
IsEntryOf bytes None = first_field bytes ≡ None
IsEntryOf bytes (Some e) = (f : FieldText) × (first_field bytes ≡ Some f) × (e ≡ entry_of f)

-- the entries of a context that was seen; none where it was not
abbrev pub entries_seen : Option (List NamedValue) → List NamedValue
entries_seen None = []
entries_seen (Some entries) = entries
