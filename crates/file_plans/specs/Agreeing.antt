-- Which contents, and which mailboxes, agree with what a call was answered.
use Rattle.std.specs.Prelude.{◌≡◌, ◌≢◌, ◌&&◌, ◌||◌, Bool, false, not, ℕ, Option, Some, None, List, [], ◌∷◌}
use Rattle.folder_files.specs.Deeds.{Deed}
use Rattle.folder_files.specs.declared.place.Place.{Place}
use Rattle.folder_files.specs.declared.step.Step.{Step}
use Rattle.folder_files.specs.declared.step.Step.TheVariants as step
use Rattle.folder_files.specs.declared.step.Answer.{Answer}
use Rattle.folder_files.specs.declared.step.Answer.TheVariants.{Failed}
use Rattle.file_plans.specs.Giving.{Table}
use Rattle.file_plans.specs.Contents.{Contents, is_at, where_done, mailbox_in}
use Rattle.file_plans.specs.Mailboxes.{Mailbox}
use Rattle.file_plans.specs.Views.{View, first_view, number_put, is_exists, by_view}

-- each step that did not fail has a fitting answer, and this state comes after it; the newest first
abbrev pub FitPast : {S : Type 0} → Table S → S → List Deed → S → Type 0
FitPast t s [] z = z ≡ s
FitPast {S = S} t s (d ∷ ds) z =
    (y : S) × FitPast t s ds y × (d.answer ≢ Failed → t.fits y d.step d.answer) × (z ≡ t.after y d.step d.answer)

abbrev pub with_number : Option ℕ → List ℕ → List ℕ
with_number None ns = ns
with_number (Some n) ns = n ∷ ns

-- the numbers of the puts among deeds, in the order in which they were made
abbrev pub numbers_put : List Deed → List ℕ → List ℕ
numbers_put [] later = later
numbers_put (d ∷ ds) later = numbers_put ds (with_number (number_put d.step d.answer) later)

-- a Link to this name was answered Exists
abbrev pub met_by : Step → Answer → Place → List ℕ → Bool
met_by (step.Link q n m) a p x = is_exists a && is_at q m p x
met_by s a p x = false

-- the step led this name to a file
abbrev pub made_by : Step → Answer → Place → List ℕ → Bool
made_by (step.Create q n b) a p x = where_done a (is_at q n p x) false
made_by (step.Link q n m) a p x = where_done a (is_at q m p x) false
made_by (step.Rename q n m) a p x = where_done a (is_at q m p x) false
made_by s a p x = false

-- an own step led this name to a file
abbrev pub is_made : List Deed → Place → List ℕ → Bool
is_made [] p x = false
is_made (d ∷ ds) p x = made_by d.step d.answer p x || is_made ds p x

-- a Link to this name was answered Exists before any own step had led it to a file: so it stood there when the call
-- came
abbrev pub is_first_met : List Deed → Place → List ℕ → Bool
is_first_met [] p x = false
is_first_met (d ∷ ds) p x = (met_by d.step d.answer p x && not (is_made ds p x)) || is_first_met ds p x

-- contents, as a call met them, agree with the answers to its own steps: wherever a name still led to what stood there
-- at first, and an answer was the first to tell of it, it told what these contents have there
abbrev pub AgreesWith : Contents → List Deed → Type 0
AgreesWith c deeds =
    (z : View) × FitPast (by_view false) (first_view c (numbers_put deeds []) (is_first_met deeds)) deeds z

-- a mailbox agrees with the answers where contents of which it is the mailbox do
pub record MailboxAgrees (m : Mailbox) (deeds : List Deed) : Type 0 where
  pub contents : Contents
  pub shown : mailbox_in contents ≡ m
  pub agrees : AgreesWith contents deeds
