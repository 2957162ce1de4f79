-- Names that are looked up by their keys.
use Rattle.std.specs.Prelude.{ℕ, Bool, bytes_eq, List}
use Rattle.std.specs.List.{list_any}
use Rattle.mh_profile.specs.declared.name_keys.NameKeys.{NameKeys}
use Rattle.mh_profile.specs.Names.{same_entry}

-- this is the key of one of them
abbrev pub has_key : NameKeys → List ℕ → Bool
has_key names key = list_any (λ k. bytes_eq key k.items) names.keys.keys

-- one of the names is the same as this
abbrev pub is_named : List (List ℕ) → List ℕ → Bool
is_named names name = list_any (λ n. same_entry n name) names
