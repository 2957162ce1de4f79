-- The plan by which a message is taken in: no line is written of a message that is not safe.
use Rattle.std.specs.Prelude.{ℕ, ◌==◌, Bool, true, false, List, [], ◌∷◌, Option, Ok, if◌then◌else◌}
use Rattle.folder_files.specs.declared.place.Place.{Place}
use Rattle.file_plans.specs.Plan.{Return, lifted, say, ◌>>=◌}
use Rattle.step_plans.specs.CommandFaults.{of_sink}
use Rattle.message_puts.specs.Putting.{message_stored}
use Rattle.command_stages.specs.Endings.{of_plan}
use Rattle.command_stages.specs.Texts.{Commanded}
use Rattle.message_lines.specs.MessageText.{line_of, Writing}
use Rattle.message_lines.specs.Standings.{is_at}
use Rattle.message_lines.specs.declared.standing.Standing.{Standing}

-- whether nothing is written of new messages, and else what, by the number of the first of them
pub record Telling : Type 0 where
  pub silent : Bool
  pub line : ℕ → Writing

-- the first of the numbers that new messages got, and then this one
abbrev pub first_of : List ℕ → ℕ → ℕ
first_of [] n = n
first_of (first ∷ numbers) n = first

-- how a new message stands: where the first new message becomes the current one it is that, and else the one that was
-- marked before
abbrev pub standing_for : Bool → Bool → Option ℕ → ℕ → ℕ → Standing
standing_for change_cur unseen cur first n =
    record { current = if change_cur then first == n else is_at cur n; unseen = unseen }

-- a line is written, but where nothing is to be
abbrev pub told_if : Bool → List ℕ → Commanded Unit
told_if true line = Return (Ok tt)
told_if false line = lifted of_sink (say line)

-- the line of a message, after those that got these numbers
abbrev pub message_told : Telling → List ℕ → ℕ → List ℕ → Commanded Unit
message_told telling numbers n bytes = told_if telling.silent (line_of (telling.line (first_of numbers n)) n bytes)

-- it is stored, and then its line is written
unfoldable pub message_taken : ℕ → List ℕ → Place → Telling → List ℕ → ℕ → List ℕ → Commanded ℕ
message_taken run folder p telling numbers top bytes = do
  number ← lifted (of_plan folder) (message_stored run p top bytes)
  told ← message_told telling numbers number bytes
  Return (Ok number)
