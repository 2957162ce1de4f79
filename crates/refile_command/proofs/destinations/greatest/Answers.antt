use Rattle.refile_plans.proofs.RoomLeft.{last_greatest, none_greatest}
use Rattle.refile_command.proofs.destinations.greatest.Goals as goal

pub returns-in-Some : goal.returns-in-Some
returns-in-Some c = last_greatest 1 c.args.listing.now.runs c.in-Some.run' c.runs-runs.ensures.valid (rw c.runs-runs.ensures.value at c.in-Some.ensures)

pub returns-in-None : goal.returns-in-None
returns-in-None c = none_greatest c.args.listing.now.runs (rw c.runs-runs.ensures.value at c.in-None.ensures)
