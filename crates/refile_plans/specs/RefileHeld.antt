-- Where `refile` takes messages while none is held aside.
use Rattle.std.specs.Prelude.{◌≡◌, ℕ, true, List}
use Rattle.mh_base.specs.Entries.{kind_of}
use Rattle.mh_base.specs.declared.entry.Entry.TheVariants.{Number}
use Rattle.folder_files.specs.Deeds.{Deed}
use Rattle.folder_files.specs.Named.{is_held}
use Rattle.folder_files.specs.declared.place.Place.{Place}
use Rattle.folder_files.specs.declared.step.Step.{Step}
use Rattle.folder_files.specs.declared.step.Step.TheVariants as step
use Rattle.refile_plans.specs.HeldLeft.{HasLetGo}

-- the step holds aside what stands at this number of the place
abbrev pub TakesAt : Place → ℕ → Step → Type 0
TakesAt p n (step.Rename q a b) = (q ≡ p) × (kind_of a ≡ Number n) × (is_held (kind_of b) ≡ true)
TakesAt p n s = ⊥

-- where the step holds a message aside, the run has unlinked each held name that it listed in that folder
abbrev pub TakesUnheld : List Deed → Step → Type 0
TakesUnheld own s = (p : Place) (n : ℕ) → TakesAt p n s → HasLetGo p own
