use Rattle.std.proofs.Common.{arith}
use Rattle.mh_sequences.proofs.Counting.{few, ordered, counted}
use Rattle.mh_sequences.proofs.runs.total.Goals as goal

pub count-total-requires : goal.count-total-requires
count-total-requires c = ordered c.args.runs.now c.requires c.loop-run.run-index c.run-item.result c.loop-run-test.true c.run-item.is

pub overflow_add-total : goal.overflow_add-total
overflow_add-total c =
    let all = few c.args.runs.now c.requires in
    let here = counted c.args.runs.now c.loop-run.run-index c.run-item.result c.loop-run-test.true c.run-item.is in
    omega arith

pub loop-run-preserved : goal.loop-run-preserved
loop-run-preserved c =
    let here = counted c.args.runs.now c.loop-run.run-index c.run-item.result c.loop-run-test.true c.run-item.is in
    omega arith
