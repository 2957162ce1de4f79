-- The plans by which messages leave their folder for others.
use Rattle.std.specs.Prelude.{ℕ, List, [], ◌∷◌, Ok}
use Rattle.folder_files.specs.declared.place.Place.{Place}
use Rattle.file_plans.specs.Plan.{Return, lifted, ◌>>=◌}
use Rattle.command_stages.specs.Endings.{of_plan}
use Rattle.command_stages.specs.Texts.{Commanded}
use Rattle.message_moves.specs.Copying.{copied_to_all}
use Rattle.message_moves.specs.Moving.{content_read, held_discarded, number_taken}
use Rattle.message_moves.specs.declared.destination.Destination.{Destination}

-- The message of this number in this folder is held aside, read, and copied to each destination; once all copies are
-- safe it is let go. Where there is no destination it stays.
unfoldable pub message_refiled : ℕ → List ℕ → Place → ℕ → List Destination → Commanded (List Destination)
message_refiled run folder p n [] = Return (Ok [])
message_refiled run folder p n (to ∷ others) = do
  held ← lifted (of_plan folder) (number_taken run p n)
  bytes ← lifted (of_plan folder) (content_read p held)
  later ← copied_to_all run bytes (to ∷ others) []
  gone ← lifted (of_plan folder) (held_discarded p held)
  Return (Ok later)

-- the messages of these numbers, one after another: the next is held aside only when the one before it is gone
unfoldable pub messages_refiled : ℕ → List ℕ → Place → List ℕ → List Destination → Commanded (List Destination)
messages_refiled run folder p [] to = Return (Ok to)
messages_refiled run folder p (n ∷ ns) to = do
  later ← message_refiled run folder p n to
  messages_refiled run folder p ns later
