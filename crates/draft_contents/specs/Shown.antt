-- What a run was given of what a draft wants, by the answers to its own steps.
use Rattle.std.specs.Prelude.{◌≡◌, ℕ, List, [], ◌∷◌, Ok}
use Rattle.mh_base.specs.Entries.{entry_text}
use Rattle.mh_base.specs.declared.entry.Entry.TheVariants.{Number}
use Rattle.folder_files.specs.Deeds.{Deed, Once, did}
use Rattle.folder_files.specs.declared.place.FilePath.{FilePath}
use Rattle.folder_files.specs.declared.place.Place.{Place}
use Rattle.folder_files.specs.declared.place.Place.TheVariants.{Folder}
use Rattle.folder_files.specs.declared.step.Answer.TheVariants.{Content}
use Rattle.folder_files.specs.declared.step.Step.TheVariants.{Read, ReadFile}
use Rattle.step_plans.specs.ContextCommit.{LIMIT_BYTES}
use Rattle.mh_drafts.specs.declared.want.Want.{Want}
use Rattle.mh_drafts.specs.declared.want.Want.TheVariants as want
use Rattle.mhbuild_compose.specs.declared.given.Given.{Given}
use Rattle.mhbuild_compose.specs.declared.given.Given.TheVariants as given
use Rattle.draft_contents.specs.Forwards.{folder_named, folder_word}
use Rattle.draft_contents.specs.declared.forwarding.Forwarding.{Forwarding}

-- the file had these bytes
abbrev pub HasReadFile : FilePath → List ℕ → List Deed → Type 0
HasReadFile path bytes own = Once (λ d older. d ≡ did (ReadFile path LIMIT_BYTES) (Content bytes)) own

-- a message of this folder had these
abbrev pub HasReadMessage : Place → List ℕ → List Deed → Type 0
HasReadMessage place message own =
    (n : ℕ) × Once (λ d older. d ≡ did (Read place (entry_text (Number n)) LIMIT_BYTES) (Content message)) own

abbrev pub HasReadMessages : Place → List (List ℕ) → List Deed → Type 0
HasReadMessages place [] own = Unit {0}
HasReadMessages place (message ∷ messages) own = HasReadMessage place message own × HasReadMessages place messages own

-- what was given for this
abbrev pub WasGiven : List ℕ → Forwarding → Want → Given → List Deed → Type 0
WasGiven path f (want.File file) (given.File bytes) own = HasReadFile file bytes own
WasGiven path f (want.File file) (given.Messages messages) own = ⊥
WasGiven path f (want.Messages word specs) (given.File bytes) own = ⊥
WasGiven path f (want.Messages word specs) (given.Messages messages) own =
    (folder : List ℕ) × (folder_named (folder_word f word) ≡ Ok folder)
    × HasReadMessages (Folder path folder) messages own

-- and for all that is wanted, each in its place
abbrev pub AreGiven : List ℕ → Forwarding → List Want → List Given → List Deed → Type 0
AreGiven path f [] [] own = Unit {0}
AreGiven path f [] (given ∷ givens) own = ⊥
AreGiven path f (want ∷ wants) [] own = ⊥
AreGiven path f (want ∷ wants) (given ∷ givens) own = WasGiven path f want given own × AreGiven path f wants givens own
