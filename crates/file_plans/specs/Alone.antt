-- The mailbox before and after a call.
use Rattle.std.specs.Prelude.{ℕ, List, [], ◌∷◌, take}
use Rattle.folder_files.specs.Histories.{past_of, world_after}
use Rattle.folder_files.specs.Story.{Story}
use Rattle.folder_files.specs.Worlds.{WorldMap}
use Rattle.file_plans.specs.Mailboxes.{Mailbox, mailbox_of}

-- the world after so many events of a story
abbrev pub world_at : Story → ℕ → WorldMap
world_at s k = world_after s.start (past_of (take k s.history))

abbrev pub mailbox_at : Story → ℕ → Mailbox
mailbox_at s k = mailbox_of (world_at s k)

-- the first of these places, or this one where there is none
abbrev pub first_of : ℕ → List ℕ → ℕ
first_of n [] = n
first_of n (p ∷ ps) = p
