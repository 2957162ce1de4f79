-- Which entries there can be.
use Rattle.std.specs.Prelude.{◌≡◌, ℕ, Bool, false, List, [], ◌∷◌}
use Rattle.std.specs.List.{list_any}
use Rattle.mh_profile.specs.declared.named_value.NamedValue.{NamedValue}
use Rattle.mh_profile.specs.Names.{IsFieldName, same_entry}
use Rattle.mh_profile.specs.Values.{IsUnfolded}

-- a field's name with a value on one line
pub record IsEntry (e : NamedValue) : Type 0 where
  pub name : IsFieldName e.name
  pub value : IsUnfolded e.value

-- one of these entries has this name
abbrev pub has_name : List ℕ → List NamedValue → Bool
has_name name entries = list_any (λ e. same_entry name e.name) entries

-- each is an entry, and no two have the same name
abbrev pub AreEntries : List NamedValue → Type 0
AreEntries [] = Unit {0}
AreEntries (e ∷ es) = IsEntry e × (has_name e.name es ≡ false) × AreEntries es
