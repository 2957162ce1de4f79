-- Which switch of a table a text names.
use Rattle.std.specs.Prelude.{ℕ, List, Some, ◌++◌, ◌≡◌, ◌≢◌, ◌<◌, ◌⊎◌, slice_get}
use Rattle.mh_words.specs.declared.table.Kind.{Kind}
use Rattle.mh_words.specs.declared.table.Switch.{Switch}

-- the switch at this index, counted from 0
abbrev pub IsAt : List Switch → ℕ → Switch → Type 0
IsAt switches index switch = slice_get switches index ≡ Some switch

-- the name begins with the text, or is the text
abbrev pub BeginsWith : List ℕ → List ℕ → Type 0
BeginsWith name text = (rest : List ℕ) × (name ≡ text ++ rest)

-- the text is the full name of the switch at this index, and of none before it
pub record IsFullName (switches : List Switch) (text : List ℕ) (index : ℕ) (kind : Kind) : Type 0 where
  pub there : IsAt switches index (record { name = text; kind = kind })
  pub first : (other : ℕ) (switch : Switch) → other < index → IsAt switches other switch → switch.name ≢ text

-- the name of the switch at this index begins with the text, and no other switch's name does
pub record IsOnlyPrefix (switches : List Switch) (text : List ℕ) (index : ℕ) (kind : Kind) : Type 0 where
  pub name : List ℕ
  pub there : IsAt switches index (record { name = name; kind = kind })
  pub begins : BeginsWith name text
  pub only : (other : ℕ) (switch : Switch) → IsAt switches other switch → BeginsWith switch.name text → other ≡ index

-- the text names the switch at this index: in full, or by a prefix that no other switch has
abbrev pub IsSwitch : List Switch → List ℕ → ℕ → Kind → Type 0
IsSwitch switches text index kind = IsFullName switches text index kind ⊎ IsOnlyPrefix switches text index kind

-- no switch's name begins with the text
abbrev pub IsUnknown : List Switch → List ℕ → Type 0
IsUnknown switches text = (index : ℕ) (switch : Switch) → IsAt switches index switch → ¬ (BeginsWith switch.name text)

-- the names of two switches begin with the text, which is no switch's full name
pub record IsAmbiguous (switches : List Switch) (text : List ℕ) : Type 0 where
  pub no_full : (index : ℕ) (switch : Switch) → IsAt switches index switch → switch.name ≢ text
  pub index : ℕ
  pub other : ℕ
  pub apart : index < other
  pub one : Switch
  pub two : Switch
  pub one_there : IsAt switches index one
  pub two_there : IsAt switches other two
  pub one_begins : BeginsWith one.name text
  pub two_begins : BeginsWith two.name text
