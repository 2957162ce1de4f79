-- Messages are read, and tested.
use Rattle.std.specs.Prelude.{◌≡◌, ℕ, Bool, true, false, List, [], ◌∷◌, ◌++◌, filter, map, Ok, Err}
use Rattle.mh_base.specs.Entries.{entry_text}
use Rattle.mh_base.specs.declared.entry.Entry.TheVariants.{Number}
use Rattle.folder_files.specs.Deeds.{Deed, did}
use Rattle.folder_files.specs.declared.place.Place.{Place}
use Rattle.folder_files.specs.declared.step.Answer.TheVariants as answer
use Rattle.folder_files.specs.declared.step.Step.TheVariants as step
use Rattle.file_plans.specs.Asking.{read}
use Rattle.file_plans.specs.Plan.{Return, lifted, ◌>>=◌}
use Rattle.file_plans.specs.declared.answers.Reading.{Reading}
use Rattle.file_plans.specs.declared.answers.Reading.TheVariants as reading
use Rattle.step_plans.specs.CommandFaults.{of_stop}
use Rattle.step_plans.specs.ContextCommit.{LIMIT_BYTES}
use Rattle.step_plans.specs.declared.command_fault.CommandFault.TheVariants as fault
use Rattle.command_stages.specs.Texts.{Commanded, too_large}
use Rattle.pick_expr.specs.Picks.{picks}
use Rattle.pick_expr.specs.declared.expr.Expr.{Expr}

-- the number, where the message matches
abbrev pub kept_if : Bool → ℕ → List ℕ
kept_if true n = n ∷ []
kept_if false n = []

-- whether a message matches that was read
abbrev pub tested_by : Place → Expr → ℕ → Reading → Commanded Bool
tested_by place expr n (reading.Content bytes) = Return (Ok (picks expr bytes))
tested_by place expr n (reading.Long l) = Return (Err (too_large l))
tested_by place expr n reading.Gone = Return (Err (fault.Meddled place (entry_text (Number n))))

-- a message is read, and tested
unfoldable pub one_tested : Place → Expr → ℕ → Commanded Bool
one_tested place expr n = do
  reading ← lifted of_stop (read place (entry_text (Number n)) LIMIT_BYTES)
  tested_by place expr n reading

-- these messages, one after another: those that match come behind the ones that were found before
unfoldable pub all_tested : Place → Expr → List ℕ → List ℕ → Commanded (List ℕ)
all_tested place expr found [] = Return (Ok found)
all_tested place expr found (n ∷ ns) = do
  matches ← one_tested place expr n
  all_tested place expr (found ++ kept_if matches n) ns

-- a message as it was read
pub record ReadMessage : Type 0 where
  pub number : ℕ
  pub text : List ℕ

abbrev pub numbers_in : List ReadMessage → List ℕ
numbers_in messages = map (λ m. m.number) messages

-- those of which the expression holds
abbrev pub matching : Expr → List ReadMessage → List ReadMessage
matching expr messages = filter (λ m. picks expr m.text) messages

-- the deed that read the message
abbrev pub reading_of : Place → ReadMessage → Deed
reading_of place m = did (step.Read place (entry_text (Number m.number)) LIMIT_BYTES) (answer.Content m.text)

-- the deeds after these messages were read, one after another
abbrev pub after_reading : Place → List ReadMessage → List Deed → List Deed
after_reading place [] own = own
after_reading place (m ∷ ms) own = after_reading place ms (reading_of place m ∷ own)

-- the run read the messages of these numbers one after another, and these are the numbers of those of which the
-- expression holds
pub record HaveTested (place : Place) (expr : Expr) (numbers found : List ℕ) (own : List Deed) : Type 0 where
  pub messages : List ReadMessage
  pub newer : List Deed
  pub older : List Deed
  pub seen : own ≡ newer ++ after_reading place messages older
  pub all : numbers_in messages ≡ numbers
  pub matches : numbers_in (matching expr messages) ≡ found
