-- Which messages change places, by the bytes of the messages that were read.
use Rattle.std.specs.Prelude.{ℕ, List, [], ◌∷◌, ◌++◌, map}
use Rattle.mh_base.specs.Entries.{entry_text}
use Rattle.mh_base.specs.declared.entry.Entry.TheVariants.{Number}
use Rattle.folder_files.specs.Careful.{IsRead}
use Rattle.folder_files.specs.Deeds.{Deed}
use Rattle.folder_files.specs.declared.place.Place.{Place}
use Rattle.message_places.specs.Order.{moves_of}
use Rattle.message_places.specs.declared.moves.Move.{Move}
use Rattle.sortm_plans.specs.Keys.{date_key, text_key}
use Rattle.sortm_plans.specs.Ordered.{order_by_dates, order_by_texts}
use Rattle.sortm_plans.specs.declared.job.SortKey.{SortKey}
use Rattle.sortm_plans.specs.declared.job.SortKey.TheVariants as key

-- the numbers of messages with these bytes, in the order that is asked for
abbrev pub order_by : SortKey → List (List ℕ) → List ℕ → List ℕ
order_by (key.Date field) texts numbers = order_by_dates (map (date_key field) texts) numbers
order_by (key.Text field) texts numbers = order_by_texts (map (text_key field) texts) numbers

-- the moves by which they come to stand in that order: the message that comes k-th goes to the k-th of their numbers
abbrev pub moves_by : SortKey → List (List ℕ) → List ℕ → List Move
moves_by key texts numbers = moves_of (order_by key texts numbers) numbers

-- the run read the messages of these numbers, one after another, and they had these bytes
pub data HaveRead (p : Place) : List ℕ → List (List ℕ) → List Deed → Type 0 where
  read_none : {own : List Deed} → HaveRead p [] [] own
  read_next : {numbers : List ℕ} {texts : List (List ℕ)} (n : ℕ) {bytes : List ℕ} {d : Deed} {own : List Deed}
      → IsRead p (entry_text (Number n)) bytes d → HaveRead p numbers texts own
      → HaveRead p (numbers ++ n ∷ []) (texts ++ bytes ∷ []) (d ∷ own)
  read_on : {numbers : List ℕ} {texts : List (List ℕ)} {d : Deed} {own : List Deed} → HaveRead p numbers texts own
      → HaveRead p numbers texts (d ∷ own)
