-- The part that a separator begins, by readings.
use Rattle.std.specs.Prelude.{◌≡◌, ℕ, ◌<◌, ◌≤◌, List, [], ◌∷◌, length, take}
use Rattle.std.specs.Option.{option_or}
use Rattle.mbox_drop.specs.Long.{first_long, long_of}
use Rattle.mbox_drop.specs.Readings.{Reading, at, read}
use Rattle.mbox_drop.specs.declared.place.DropState.{DropState}
use Rattle.mbox_drop.specs.declared.place.DropState.TheVariants.{Separator}
use Rattle.mbox_drop.specs.declared.parts.Parts.{Parts}
use Rattle.mbox_drop.specs.declared.part.Part.{Part}
use Rattle.mbox_drop.specs.declared.part.Part.TheVariants.{Whole, Open}

-- after a first `From `
abbrev pub opened_reading : Reading
opened_reading = at [] [] [] Separator

-- the message is finished, and the rest is read after the next `From `
pub record IsWhole (bytes message rest : List ℕ) : Type 0 where
  pub reads : read opened_reading bytes ≡ read (at (message ∷ []) [] [] Separator) rest
  pub shorter : length rest < length bytes

-- the text is the message in hand
pub record IsOpen (bytes text : List ℕ) (place : DropState) (body : ℕ) : Type 0 where
  pub reads : read opened_reading bytes ≡ at [] text (take body text) place
  pub inside : body ≤ length text

abbrev pub IsPart : List ℕ → Part → Type 0
IsPart bytes (Whole message rest) = IsWhole bytes message.now rest.now
IsPart bytes (Open text place body) = IsOpen bytes text.now place body

-- the messages that these bytes finish, after a first that stays empty, and what is in hand after them
pub record AreParts (first : ℕ) (bytes : List ℕ) (p : Parts) : Type 0 where
  pub given : List (List ℕ)
  pub messages : p.messages.items ≡ [] ∷ given
  pub long : p.long ≡ option_or (long_of first) (first_long given)
  pub reads : read opened_reading bytes ≡ at given p.text.now (take p.body p.text.now) p.place
  pub inside : p.body ≤ length p.text.now
