-- What one run did: its steps with their answers, the newest first.
use Rattle.std.specs.Prelude.{◌≡◌, ◌++◌, List, ◌∷◌}
use Rattle.folder_files.specs.declared.step.Step.{Step}
use Rattle.folder_files.specs.declared.step.Answer.{Answer}
use Rattle.folder_files.specs.declared.step.Answer.TheVariants.{Done, Failed}

pub record Deed : Type 0 where
  pub step : Step
  pub answer : Answer

abbrev pub did : Step → Answer → Deed
did s a = record { step = s; answer = a }

-- at some time such a deed was done, after those before it
pub data Once (P : Deed → List Deed → Type 0) : List Deed → Type 0 where
  now : {d : Deed} {own : List Deed} → P d own → Once P (d ∷ own)
  on : {d : Deed} {own : List Deed} → Once P own → Once P (d ∷ own)

-- at some time such a deed was done, after those before it, and none that ends this has come since
pub data Since (P : Deed → List Deed → Type 0) (Ends : Deed → Type 0) : List Deed → Type 0 where
  last : {d : Deed} {own : List Deed} → P d own → Since P Ends (d ∷ own)
  still : {d : Deed} {own : List Deed} → (Ends d → ⊥) → Since P Ends own → Since P Ends (d ∷ own)

-- wherever the deeds are parted at one of them, this holds of those after it, of it, and of those before it
abbrev pub Everywhere : (List Deed → Deed → List Deed → Type 0) → List Deed → Type 0
Everywhere S own = (newer : List Deed) (d : Deed) (older : List Deed) → own ≡ newer ++ d ∷ older → S newer d older

-- the step was made with the answer Done
abbrev pub WasDone : Step → List Deed → Type 0
WasDone s own = Once (λ d older. d ≡ did s Done) own

-- a step was answered Failed
abbrev pub HasFailed : List Deed → Type 0
HasFailed own = Once (λ d older. d.answer ≡ Failed) own
