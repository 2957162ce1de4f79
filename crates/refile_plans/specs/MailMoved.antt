-- What messages that go to other folders make of a mailbox. Nothing here knows of steps.
use Rattle.std.specs.Prelude.{◌==◌, ◌&&◌, ◌∷◌, [], ℕ, List, length, map, nat_lt, Option, None, Some, if◌then◌else◌}
use Rattle.folder_files.specs.declared.place.Place.{Place}
use Rattle.file_plans.specs.MailboxChanges.{with_message}
use Rattle.file_plans.specs.Mailboxes.{Folder as FolderValue, Mailbox}
use Rattle.step_plans.specs.ContextCommit.{LIMIT_BYTES}
use Rattle.held_messages.specs.HeldPairs.{with_folder_changed}
use Rattle.message_moves.specs.RefiledAlone.{next_of, raised}
use Rattle.message_moves.specs.declared.destination.Destination.{Destination}
use Rattle.opening_plans.specs.Kept.{Commits, Kept, all_made, kept_of, too_long}

-- the message of this number, where the folder is there and has one
abbrev pub message_of : Option FolderValue → ℕ → Option (List ℕ)
message_of None n = None
message_of (Some f) n = f.messages n

-- a message with these bytes stands above the highest number of each of these folders
unfoldable pub with_copies : Mailbox → List ℕ → List Destination → Mailbox
with_copies m bytes [] = m
with_copies m bytes (to ∷ others) = with_copies (with_message m to.place (next_of to) bytes) bytes others

-- the folder without the message of this number; this is what the run holds aside of it
abbrev pub with_aside : ℕ → ℕ → Option (List ℕ) → FolderValue → FolderValue
with_aside run n held f = record {
  messages = λ k. if n == k then None else f.messages k;
  removed = f.removed;
  held = λ r k. if (run == r) && (n == k) then held else f.held r k;
  sequences = f.sequences;
}

-- what a message makes of the mailbox that goes to other folders; and what one does that is too long to go there
pub record Moves : Type 0 where
  pub goes : ℕ → List ℕ → List Destination → Mailbox → Mailbox
  pub stays : ℕ → List ℕ → Mailbox → Mailbox

-- it stands in each of them and no longer in its own, and is not held aside there; one that is too long is
abbrev pub gone_from : ℕ → Place → Moves
gone_from run p = record {
  goes = λ n bytes to m. with_folder_changed (with_copies m bytes to) p (with_aside run n None);
  stays = λ n bytes m. with_folder_changed m p (with_aside run n (Some bytes));
}

-- it stands there too
abbrev pub copied_from : Moves
copied_from = record { goes = λ n bytes to m. with_copies m bytes to; stays = λ n bytes m. m }

-- where there is a message
abbrev pub where_message : Option (List ℕ) → Commits → (List ℕ → Commits) → Commits
where_message None without next = without
where_message (Some bytes) without next = next bytes

-- The messages of these numbers of the folder, one after another. The one that is too long is the last. A number that
-- has no message is left out.
unfoldable pub mail_moved : Moves → Place → List ℕ → List Destination → Kept → Commits
mail_moved moves p [] to k = all_made k
mail_moved moves p (n ∷ ns) to k =
    where_message (message_of (k.mailbox.folders p) n) (mail_moved moves p ns to k)
    (λ bytes. if nat_lt LIMIT_BYTES (length bytes)
    then too_long (kept_of (moves.stays n bytes k.mailbox) k.entries) (length bytes)
    else mail_moved moves p ns (map raised to) (kept_of (moves.goes n bytes to k.mailbox) k.entries))
