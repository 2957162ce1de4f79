-- The mailbox once messages of one folder changed places.
use Rattle.std.specs.Prelude.{◌≡◌, ◌++◌, ℕ, Bool, true, List, length}
use Rattle.folder_files.specs.declared.place.Place.{Place}
use Rattle.file_plans.specs.Mailboxes.{Mailbox}
use Rattle.held_messages.specs.HeldPairs.{with_folder_changed}
use Rattle.message_places.specs.Places.{AreMsgNums, rearranged, slots}
use Rattle.message_places.specs.declared.moves.Move.{Move}

-- Each move's message stands at the number beside it, and nothing else of the mailbox is changed. Alone these are their
-- slots. Of the numbers that the call's links were to get, these are the first, and those that are left come later.
pub record Rearranges (alone : Bool) (before : Mailbox) (p : Place) (ms : List Move) (ends ns later : List ℕ)
    (after : Mailbox) : Type 0 where
  pub count : length ends ≡ length ms
  pub valid : AreMsgNums ends
  pub at_slots : alone ≡ true → ends ≡ slots ms
  pub numbers : ns ≡ ends ++ later
  pub mailbox : after ≡ with_folder_changed before p (rearranged ms ends)
