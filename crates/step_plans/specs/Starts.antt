-- The premise on where a history starts: run numbers are fresh.
use Rattle.std.specs.Prelude.{◌≡◌, ℕ, true, List, None}
use Rattle.folder_files.specs.Histories.{has_acted}
use Rattle.folder_files.specs.Worlds.{shown}
use Rattle.folder_files.specs.declared.event.Event.{Event}
use Rattle.folder_files.specs.declared.place.Place.{Place}
use Rattle.folder_files.specs.declared.world.World.{World}
use Rattle.folder_files.specs.Standing.{is_own_of}

-- the start holds no temporary and no held name of this run
abbrev pub HasNoneOf : World → ℕ → Type 0
HasNoneOf start run = (p : Place) (x : List ℕ) → is_own_of run x ≡ true → ((shown start).directories p).safe x ≡ None

-- the start holds no temporary and no held name of a run that acts
abbrev pub HasNoneOfTheirs : World → List Event → Type 0
HasNoneOfTheirs start past = (run : ℕ) → has_acted past run ≡ true → HasNoneOf start run
