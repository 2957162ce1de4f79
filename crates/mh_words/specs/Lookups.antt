-- What a look-up in the table finds.
use Rattle.std.specs.Prelude.{ℕ, List, ◌≡◌, ◌≢◌}
use Rattle.mh_words.specs.declared.table.Kind.{Kind}
use Rattle.mh_words.specs.declared.table.Switch.{Switch}
use Rattle.mh_words.specs.declared.lookup.Likeness.{Likeness}
use Rattle.mh_words.specs.declared.lookup.Likeness.TheVariants.{Same, Longer, Unlike}
use Rattle.mh_words.specs.declared.lookup.Found.{Found}
use Rattle.mh_words.specs.declared.lookup.Found.TheVariants.{Nothing, One, Several}
use Rattle.mh_words.specs.Switches.{BeginsWith, IsSwitch, IsUnknown, IsAmbiguous}

-- the name beside the text: the same, longer, or with another beginning
abbrev pub IsLikeness : List ℕ → List ℕ → Likeness → Type 0
IsLikeness name text Same = name ≡ text
IsLikeness name text Longer = BeginsWith name text × (name ≢ text)
IsLikeness name text Unlike = ¬ (BeginsWith name text)

-- what the text names in the table
abbrev pub Finds : List Switch → List ℕ → Found → Type 0
Finds switches text Nothing = IsUnknown switches text
Finds switches text (One index kind) = IsSwitch switches text index kind
Finds switches text Several = IsAmbiguous switches text

-- what was found, with one more switch whose name begins with the text
abbrev pub one_more : Found → ℕ → Kind → Found
one_more Nothing index kind = One index kind
one_more (One index' kind') index kind = Several
one_more Several index kind = Several
