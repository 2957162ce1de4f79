-- What messages that go to other folders make of contents alone.
use Rattle.std.specs.Prelude.{◌+◌, ℕ, List, [], ◌∷◌, Some, None, decimal}
use Rattle.mh_base.specs.Entries.{entry_text}
use Rattle.mh_base.specs.declared.entry.Entry.TheVariants.{Held, Number}
use Rattle.folder_files.specs.declared.place.Place.{Place}
use Rattle.file_plans.specs.Contents.{Contents, with_text}
use Rattle.message_moves.specs.Copying.{highest_of}
use Rattle.message_moves.specs.declared.destination.Destination.{Destination}

-- the number above the highest
abbrev pub next_of : Destination → ℕ
next_of to = highest_of to.highest + 1

-- a destination once it has one message more
abbrev pub raised : Destination → Destination
raised to = record { folder = to.folder; place = to.place; highest = Some (next_of to) }

-- a message with these bytes stands above the highest number of each destination
unfoldable pub copied_in : Contents → List ℕ → List Destination → Contents
copied_in c bytes [] = c
copied_in c bytes (to ∷ others) = copied_in (with_text c to.place (decimal (next_of to)) (Some bytes)) bytes others

-- and nothing at its number, nor under the run's held name of it
abbrev pub refiled_in : Contents → Place → ℕ → ℕ → List ℕ → List Destination → Contents
refiled_in c p run n bytes to =
    with_text (with_text (copied_in c bytes to) p (entry_text (Number n)) None) p (entry_text (Held run n)) None
