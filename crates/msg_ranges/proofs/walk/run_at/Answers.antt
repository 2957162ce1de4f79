use Rattle.msg_ranges.proofs.Walking.{at_place}
use Rattle.msg_ranges.proofs.walk.run_at.Goals as goal

pub returns-then-index-runs-clause-at : goal.returns-then-index-runs-clause-at
returns-then-index-runs-clause-at c = at_place c.args.set.now.runs c.args.index c.run_at.result c.runs.ensures.valid (rw c.runs.ensures.value at c.if-index-runs.true) c.run_at.ensures
