-- The plan by which messages are taken in, one after another.
use Rattle.std.specs.Prelude.{◌++◌, ◌∷◌, [], ℕ, List, Ok}
use Rattle.folder_files.specs.declared.place.Place.{Place}
use Rattle.file_plans.specs.Plan.{Return, ◌>>=◌}
use Rattle.command_stages.specs.Texts.{Commanded}
use Rattle.inc_plans.specs.Taking.{message_taken, Telling}
use Rattle.inc_plans.specs.declared.taken.Taken.{Taken}

-- one more
abbrev pub with_number : ℕ → Taken → Taken
with_number n t = record { numbers = t.numbers ++ n ∷ []; highest = n }

unfoldable pub all_taken : ℕ → List ℕ → Place → Telling → Taken → List (List ℕ) → Commanded Taken
all_taken run folder p telling taken [] = Return (Ok taken)
all_taken run folder p telling taken (message ∷ messages) = do
  n ← message_taken run folder p telling taken.numbers taken.highest message
  all_taken run folder p telling (with_number n taken) messages
