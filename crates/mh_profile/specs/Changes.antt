-- Entries by name, and what changes them.
use Rattle.std.specs.Prelude.{ℕ, not, List, [], ◌∷◌, ◌++◌, Option, None, Some, filter, if◌then◌else◌}
use Rattle.mh_profile.specs.declared.named_value.NamedValue.{NamedValue}
use Rattle.mh_profile.specs.Names.{same_entry}
use Rattle.mh_profile.specs.Validity.{has_name}

-- the value of the entry of this name
abbrev pub value_of : List ℕ → List NamedValue → Option (List ℕ)
value_of name [] = None
value_of name (e ∷ es) = if same_entry name e.name then Some e.value else value_of name es

-- the entry of this name has the value, in its place and its spelling; where there was none, it stands last
abbrev pub with_entry : List ℕ → List ℕ → List NamedValue → List NamedValue
with_entry name value [] = record { name = name; value = value } ∷ []
with_entry name value (e ∷ es) =
    if same_entry name e.name then record { name = e.name; value = value } ∷ es else e ∷ with_entry name value es

-- the entries of other names
abbrev pub without : List ℕ → List NamedValue → List NamedValue
without name entries = filter (λ e. not (same_entry name e.name)) entries

-- the entries without these, one name after another
abbrev pub without_all : List (List ℕ) → List NamedValue → List NamedValue
without_all [] entries = entries
without_all (name ∷ names) entries = without_all names (without name entries)

-- the entry stands last, unless there was one of its name
abbrev pub noted : List NamedValue → NamedValue → List NamedValue
noted entries e = if has_name e.name entries then entries else entries ++ e ∷ []
