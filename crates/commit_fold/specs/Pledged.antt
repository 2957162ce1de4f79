-- What runs' pledges say of their commits of a name.
use Rattle.std.specs.Prelude.{◌≡◌, ◌++◌, ℕ, List}
use Rattle.folder_files.specs.Deeds.{Deed}
use Rattle.folder_files.specs.Histories.{own}
use Rattle.folder_files.specs.declared.event.Event.{Event}
use Rattle.folder_files.specs.declared.place.Place.{Place}
use Rattle.step_plans.specs.Pledges.{Pledge}
use Rattle.commit_fold.specs.Counting.{done_in}

-- the deeds that a run had at a moment, of all that it has
abbrev pub IsBack : List Deed → List Deed → Type 0
IsBack deeds all = (newer : List Deed) × (newer ++ deeds ≡ all)

-- by the run's pledge, its commit of the name that has so many before it may make this text of that one, at deeds that
-- the run had when it had made so many
abbrev pub as_pledged : (ℕ → Pledge) → Place → List ℕ → List Event → ℕ → ℕ → List ℕ → List ℕ → Type 0
as_pledged pledges p name past run turn old new =
    (deeds : List Deed) × IsBack deeds (own run past) × (done_in p name deeds ≡ turn)
    × (pledges run).may_mark deeds p name old new
