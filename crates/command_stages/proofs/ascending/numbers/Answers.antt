use Rattle.command_stages.proofs.Counting.{next_run, all_runs}
use Rattle.command_stages.proofs.ascending.numbers.Goals as goal

pub loop-index-preserved : goal.loop-index-preserved
loop-index-preserved c = next_run c.args.set.now.runs c.loop-index.index c.loop-index.numbers.items c.push_at.new.numbers.items c.in_ok-push_at.ensures c.loop-index.invariant

pub returns : goal.returns
returns c = all_runs c.args.set.now.runs c.loop-index.index c.loop-index.numbers.items (rw c.runs-index-end.ensures.value at c.loop-index-test.false) c.loop-index.invariant
