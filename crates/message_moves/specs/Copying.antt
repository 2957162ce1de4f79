-- The plans by which copies of a message go to other folders.
use Rattle.std.specs.Prelude.{◌++◌, ℕ, List, [], ◌∷◌, Option, Some, None, Ok}
use Rattle.mh_base.specs.Entries.{entry_text}
use Rattle.mh_base.specs.declared.entry.Entry.TheVariants.{Number}
use Rattle.folder_files.specs.declared.place.Place.{Place}
use Rattle.file_plans.specs.Plan.{Return, lifted, ◌>>=◌}
use Rattle.message_puts.specs.Putting.{message_stored}
use Rattle.command_stages.specs.Endings.{of_plan}
use Rattle.command_stages.specs.Texts.{Commanded}
use Rattle.message_moves.specs.Moving.{content_read}
use Rattle.message_moves.specs.declared.destination.Destination.{Destination}

-- the highest number of a folder, or 0 where it has no message
abbrev pub highest_of : Option ℕ → ℕ
highest_of None = 0
highest_of (Some n) = n

-- a copy gets a number above the highest of the destination, and is made safe there; so the destination is then
unfoldable pub copied_to : ℕ → List ℕ → Destination → Commanded Destination
copied_to run bytes to = do
  number ← lifted (of_plan to.folder) (message_stored run to.place (highest_of to.highest) bytes)
  Return (Ok (record { folder = to.folder; place = to.place; highest = Some number }))

-- one gets to each of these, one after another; so all are then, behind those before
unfoldable pub copied_to_all : ℕ → List ℕ → List Destination → List Destination → Commanded (List Destination)
copied_to_all run bytes [] before = Return (Ok before)
copied_to_all run bytes (to ∷ others) before = do
  one ← copied_to run bytes to
  copied_to_all run bytes others (before ++ one ∷ [])

-- the message of this number in this folder is read and copied to each destination, and keeps its number
unfoldable pub message_copied : ℕ → List ℕ → Place → ℕ → List Destination → Commanded (List Destination)
message_copied run folder p n to = do
  bytes ← lifted (of_plan folder) (content_read p (entry_text (Number n)))
  copied_to_all run bytes to []

-- the messages of these numbers, one after another
unfoldable pub messages_copied : ℕ → List ℕ → Place → List ℕ → List Destination → Commanded (List Destination)
messages_copied run folder p [] to = Return (Ok to)
messages_copied run folder p (n ∷ ns) to = do
  later ← message_copied run folder p n to
  messages_copied run folder p ns later
