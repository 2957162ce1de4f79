-- What a call did that came to its end.
use Rattle.std.specs.Prelude.{◌≡◌, ◌⊎◌, ℕ, List, [], ◌∷◌}
use Rattle.folder_files.specs.Careful.{IsLook}
use Rattle.folder_files.specs.Deeds.{Deed, did, Once}
use Rattle.folder_files.specs.declared.place.Place.{Place}
use Rattle.folder_files.specs.declared.step.Answer.TheVariants.{Done}
use Rattle.folder_files.specs.declared.step.Step.TheVariants.{Rename}
use Rattle.step_plans.specs.Settled.{AreSettled}

-- a new file took this name of this place
abbrev pub HasCommitted : Place → List ℕ → List Deed → Type 0
HasCommitted p name own = Once (λ d older. (temp : List ℕ) × (d ≡ did (Rename p temp name) Done)) own

-- each step looked
abbrev pub OnlyLooked : List Deed → Type 0
OnlyLooked [] = Unit {0}
OnlyLooked (d ∷ own) = IsLook d.step × OnlyLooked own

-- each commit was made safe, and this name was committed or nothing was changed
pub record AreFinished (p : Place) (name : List ℕ) (own : List Deed) : Type 0 where
  pub settled : AreSettled own
  pub done : HasCommitted p name own ⊎ OnlyLooked own
