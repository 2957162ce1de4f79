-- Entries as a text.
use Rattle.std.specs.Prelude.{ℕ, List, [], ◌∷◌, ◌++◌}
use Rattle.std.specs.List.{flat_map}
use Rattle.mh_profile.specs.declared.named_value.NamedValue.{NamedValue}

-- the name, a colon and a space, the value and a line feed
abbrev pub printed_entry : NamedValue → List ℕ
printed_entry e = e.name ++ (58 ∷ 32 ∷ []) ++ e.value ++ 10 ∷ []

-- one after another
abbrev pub printed : List NamedValue → List ℕ
printed entries = flat_map printed_entry entries
