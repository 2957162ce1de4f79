-- What a call does with its input.
use Rattle.std.specs.Prelude.{◌≡◌, ◌⊎◌, ℕ, List, [], Option, Some, None}
use Rattle.mh_tools.specs.Calls.{Builds, Call}
use Rattle.mh_tools.specs.declared.status.Status.TheVariants.{Done}

-- nothing was taken, or all
abbrev pub HasTakenAll : Option (List ℕ) → Option (List ℕ) → Type 0
HasTakenAll None None = Unit {0}
HasTakenAll (Some old) (Some new) = (new ≡ old) ⊎ (new ≡ [])
HasTakenAll None (Some new) = ⊥
HasTakenAll (Some old) None = ⊥

-- No command but `mhbuild` reads the input. At Done it was left as it is, or read to its end.
pub record ReadsInput (c : Call) : Type 0 where
  pub others : (Builds c → ⊥) → c.after.input ≡ c.before.input
  pub done : c.status ≡ Done → HasTakenAll c.before.input.left c.after.input.left
