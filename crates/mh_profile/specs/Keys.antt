-- Entries by key.
use Rattle.std.specs.Prelude.{◌≡◌, ℕ, List, [], ◌∷◌}
use Rattle.std.specs.Global.{Vec}
use Rattle.mh_profile.specs.declared.named_value.NamedValue.{NamedValue}
use Rattle.mh_profile.specs.Names.{key_of}

-- each stands under the key of its name
abbrev pub AreKeyed : List (Vec ℕ × NamedValue) → Type 0
AreKeyed [] = Unit {0}
AreKeyed (p ∷ ps) = (p.0.items ≡ key_of p.1.name) × AreKeyed ps
