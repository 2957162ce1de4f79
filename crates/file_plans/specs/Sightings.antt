-- What a call saw: the answers to its own steps.
use Rattle.std.specs.Prelude.{◌≡◌, ◌⊎◌, ◌==◌, ◌||◌, ℕ, Bool, false, List, [], ◌∷◌, length, drop, Option, Some, None}
use Rattle.mh_base.specs.Numbers.{number_of}
use Rattle.folder_files.specs.Deeds.{Deed}
use Rattle.folder_files.specs.Histories.{own, past_of}
use Rattle.folder_files.specs.Story.{Story}
use Rattle.folder_files.specs.declared.event.Event.{Event}
use Rattle.folder_files.specs.declared.step.Step.{Step}
use Rattle.folder_files.specs.declared.step.Answer.{Answer}
use Rattle.folder_files.specs.declared.step.Answer.TheVariants.{Failed}

-- the events since
abbrev pub events_since : Story → Story → List Event
events_since old new = drop (length old.history) new.history

-- these are the run's own steps in the call with their answers, the newest first, where the files tell them
abbrev pub AreMade : ℕ → Option Story → Option Story → List Deed → Type 0
AreMade run None None deeds = Unit {0}
AreMade run (Some old) (Some new) deeds = deeds ≡ own run (past_of (events_since old new))
AreMade run None (Some new) deeds = ⊥
AreMade run (Some old) None deeds = ⊥

abbrev pub is_this : ℕ → Option ℕ → Bool
is_this n None = false
is_this n (Some k) = k == n

-- the message number is among the names
abbrev pub has_number : ℕ → List (List ℕ) → Bool
has_number n [] = false
has_number n (name ∷ names) = is_this n (number_of name) || has_number n names

abbrev pub IsFailed : Step → Answer → Type 0
IsFailed s a = a ≡ Failed

-- such a step was made, with such an answer
abbrev pub Made : (Step → Answer → Type 0) → List Deed → Type 0
Made P [] = ⊥
Made P (d ∷ ds) = P d.step d.answer ⊎ Made P ds
