use Rattle.std.proofs.Common.{◌∙◌}
use Rattle.inc_plans.proofs.NewMarks.{last_top, none_top}
use Rattle.inc_command.proofs.incorporating.highest.Goals as goal

pub returns-in-Some-clause-value : goal.returns-in-Some-clause-value
returns-in-Some-clause-value c = c.get.ensures.value ∙ last_top 1 c.args.listing.now.runs c.in-Some.run' c.runs-runs.ensures.valid (rw c.runs-runs.ensures.value at c.in-Some.ensures)

pub returns-in-None-clause-value : goal.returns-in-None-clause-value
returns-in-None-clause-value c = none_top c.args.listing.now.runs (rw c.runs-runs.ensures.value at c.in-None.ensures)
