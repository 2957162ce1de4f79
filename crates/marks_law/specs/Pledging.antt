-- Pledges of commands whose steps mind marks.
use Rattle.std.specs.Prelude.{◌≡◌, ◌≢◌, ◌⊎◌, ℕ, List}
use Rattle.folder_files.specs.Careful.{HasLock}
use Rattle.folder_files.specs.Deeds.{Deed}
use Rattle.folder_files.specs.Histories.{Changes}
use Rattle.folder_files.specs.declared.event.Event.{Event}
use Rattle.folder_files.specs.declared.step.Step.{Step}
use Rattle.folder_files.specs.declared.step.Step.TheVariants.{Rename}
use Rattle.step_plans.specs.Pledges.{Pledge}
use Rattle.step_plans.specs.Safety.{AtSteps}
use Rattle.marks_law.specs.Apart.{by_text}
use Rattle.marks_law.specs.Bearers.{Marking}
use Rattle.marks_law.specs.Minding.{KeepsMarks, Minds, by_base}

-- the step commits the text of these marks
abbrev pub CommitsText : Marking → Step → Type 0
CommitsText k s = (temp : List ℕ) × (s ≡ Rename k.place temp k.name)

-- each step that the pledge lets be, and that changes the folder, minds its marks
abbrev pub MindsMarks : Pledge → Marking → Type 0
MindsMarks w k =
    (own : List Deed) (s : Step) → w.may_step own s → Changes k.folder s → Minds w.run k (by_base w.run k) own s

-- the same of marks whose text stands in another directory, and of each commit of that text
abbrev pub MindsMarksApart : Pledge → Marking → Type 0
MindsMarksApart w k =
    (own : List Deed) (s : Step) → w.may_step own s → Changes k.folder s ⊎ CommitsText k s
    → Minds w.run k (by_text w.run k) own s

-- each step of the other runs that changes the folder minds its marks
abbrev pub OthersAreMindful : ℕ → Marking → List Event → Type 0
OthersAreMindful run k past =
    AtSteps (λ r. r ≢ run) (λ r own s. Changes k.folder s → Minds r k (by_base r k) own s) past

abbrev pub OthersAreMindfulApart : ℕ → Marking → List Event → Type 0
OthersAreMindfulApart run k past =
    AtSteps (λ r. r ≢ run) (λ r own s. Changes k.folder s ⊎ CommitsText k s → Minds r k (by_text r k) own s) past

-- each commit of the text by another run is under the folder's lock, or keeps the marks
abbrev pub OthersAreConsiderate : ℕ → Marking → List Event → Type 0
OthersAreConsiderate run k past =
    AtSteps (λ r. r ≢ run)
    (λ r own s. (temp : List ℕ) → s ≡ Rename k.place temp k.name
    → HasLock k.folder own ⊎ KeepsMarks r k temp own) past
