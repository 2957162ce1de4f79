-- Where `rmm` removes while no message is held aside.
use Rattle.std.specs.Prelude.{◌≡◌, ℕ, true, List}
use Rattle.mh_base.specs.Entries.{kind_of}
use Rattle.folder_files.specs.Deeds.{Deed, Once, WasDone, did}
use Rattle.folder_files.specs.Named.{is_held}
use Rattle.folder_files.specs.Steps.{has_text}
use Rattle.folder_files.specs.declared.place.Place.{Place}
use Rattle.folder_files.specs.declared.step.Answer.TheVariants.{Names}
use Rattle.folder_files.specs.declared.step.Step.{Step}
use Rattle.folder_files.specs.declared.step.Step.TheVariants.{List as Lists, Unlink}
use Rattle.refile_plans.specs.RmmPledge.{Removes}

-- each held name that the run listed in the folder it has unlinked
abbrev pub HasLetGo : Place → List Deed → Type 0
HasLetGo p own =
    (names : List (List ℕ)) → Once (λ d older. d ≡ did (Lists p) (Names names)) own
    → (held : List ℕ) → is_held (kind_of held) ≡ true → has_text held names ≡ true → WasDone (Unlink p held) own

-- where the step takes a message from its number, it is so in that folder
abbrev pub RemovesUnheld : List Deed → Step → Type 0
RemovesUnheld own s = (p : Place) (n : ℕ) → Removes p n s → HasLetGo p own
