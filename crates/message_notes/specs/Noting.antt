-- The plans by which messages get lines in front of their bytes, and keep their numbers.
use Rattle.std.specs.Prelude.{◌++◌, ℕ, max, List, [], ◌∷◌, Some, Ok, decimal}
use Rattle.folder_files.specs.declared.place.Place.{Place}
use Rattle.file_plans.specs.Plan.{Return, ◌>>=◌}
use Rattle.step_plans.specs.PlanFaults.{Planned}
use Rattle.step_plans.specs.Replacing.{synced}
use Rattle.message_puts.specs.Putting.{message_put}
use Rattle.message_moves.specs.Moving.{content_read, held_discarded, number_taken, readable}

-- a message with these bytes is put at this number, or where that is taken above the highest, and made safe there
unfoldable pub stored_at : ℕ → Place → ℕ → List ℕ → ℕ → Planned ℕ
stored_at run p n bytes top = do
  number ← message_put run p bytes (Some n) top
  safe ← synced p (decimal number)
  Return (Ok number)

-- The message of this number is held aside and read, and what was read is put anew at its number with these lines in
-- front, unless that is too long; once it is safe there, the message that is held aside is let go. This is where it
-- stands then.
unfoldable pub message_noted : ℕ → Place → List ℕ → ℕ → ℕ → Planned ℕ
message_noted run p lines n top = do
  held ← number_taken run p n
  bytes ← content_read p held
  new ← Return (readable (lines ++ bytes))
  number ← stored_at run p n new top
  gone ← held_discarded p held
  Return (Ok number)

-- the messages of these numbers, one after another: the next is held aside only when the one before it is gone
unfoldable pub messages_noted : ℕ → Place → List ℕ → List ℕ → ℕ → Planned Unit
messages_noted run p lines [] top = Return (Ok tt)
messages_noted run p lines (n ∷ ns) top = do
  number ← message_noted run p lines n top
  messages_noted run p lines ns (max top number)
