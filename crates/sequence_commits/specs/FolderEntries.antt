-- The context's entries of a folder's private sequences.
use Rattle.std.specs.Prelude.{ℕ, ◌&&◌, Bool, bytes_eq, List, [], ◌∷◌, drop}
use Rattle.std.specs.List.{prefix_len}
use Rattle.mh_profile.specs.declared.named_value.NamedValue.{NamedValue}
use Rattle.mh_profile.specs.Changes.{with_entry}
use Rattle.mh_profile.specs.Names.{is_attribute}
use Rattle.mh_sequences.specs.Lists.{is_no_dash}

-- what begins with the first dash
abbrev pub from_dash : List ℕ → List ℕ
from_dash text = drop (prefix_len is_no_dash text) text

-- the name of an entry of the folder with this ending: `atr-`, then a part without a dash, whatever it is, and then the
-- ending
abbrev pub is_of_folder : List ℕ → List ℕ → Bool
is_of_folder ending name = is_attribute name && bytes_eq (from_dash (drop 4 name)) ending

-- entries among others, one after another
unfoldable pub set_all : List NamedValue → List NamedValue → List NamedValue
set_all [] entries = entries
set_all (e ∷ es) entries = set_all es (with_entry e.name e.value entries)
