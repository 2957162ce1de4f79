-- What a single word is, by how it begins.
use Rattle.std.specs.Prelude.{ℕ, Bool, List, [], ◌++◌, ◌≡◌, ◌≢◌, IsTrue, codes}
use Rattle.std.specs.Str.{chars}
use Rattle.mh_words.specs.declared.form.Form.{Form}
use Rattle.mh_words.specs.declared.form.Form.TheVariants.{Folder, Message, Dash, Switch, Component}

-- a folder: the word begins with a plus sign
abbrev pub IsFolder : List ℕ → Type 0
IsFolder word = (name : List ℕ) × (word ≡ codes "+" ++ name)

-- a component to search, of this name: the table allows components, and the name follows two dashes
pub record IsComponent (components : Bool) (word name : List ℕ) : Type 0 where
  pub allowed : IsTrue components
  pub spelled : word ≡ codes "--" ++ name

-- the dash alone, which names no switch
abbrev pub IsLoneDash : List ℕ → Type 0
IsLoneDash word = word ≡ codes "-"

-- a switch of this name: the name follows one dash and is not empty, and the word is no component
pub record IsSwitchWord (components : Bool) (word name : List ℕ) : Type 0 where
  pub spelled : word ≡ codes "-" ++ name
  pub named : name ≢ []
  pub no_component : (other : List ℕ) → ¬ (IsComponent components word other)

-- a message's name: the word, which may be empty, begins neither with a plus sign nor with a dash
pub record IsMessage (word : List ℕ) : Type 0 where
  pub no_plus : (name : List ℕ) → word ≢ codes "+" ++ name
  pub no_dash : (name : List ℕ) → word ≢ codes "-" ++ name

-- the word has this form
abbrev pub HasForm : Bool → List ℕ → Form → Type 0
HasForm components word Folder = IsFolder word
HasForm components word Message = IsMessage word
HasForm components word Dash = IsLoneDash word
HasForm components word (Switch name) = IsSwitchWord components word (chars name.now)
HasForm components word (Component name) = IsComponent components word (chars name.now)
