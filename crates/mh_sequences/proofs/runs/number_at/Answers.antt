use Rattle.std.proofs.Common.{◌+◌, arith, sym, ◌∙◌, ap, Some}
use Rattle.mh_sequences.proofs.Counting.{ordered, fits, number_here, number_behind}
use Rattle.mh_sequences.proofs.runs.number_at.Goals as goal

pub count-count-requires : goal.count-count-requires
count-count-requires c = ordered c.args.runs.now c.requires c.loop-run.run-index c.run-item.result c.loop-run-test.true c.run-item.is

pub number-requires : goal.number-requires
number-requires c =
    let top = fits c.args.runs.now c.requires c.loop-run.run-index c.run-item.result c.loop-run-test.true c.run-item.is in
    (omega arith, omega arith)

pub returns-then-left-count : goal.returns-then-left-count
returns-then-left-count c =
    ap Some (c.number.ensures ∙ ap (λ n. n + c.loop-run.left) c.get.ensures.value)
    ∙ sym (number_here c.args.runs.now c.loop-run.run-index c.run-item.result c.loop-run.left c.loop-run-test.true c.run-item.is (omega arith))
    ∙ c.loop-run.invariant

pub loop-run-preserved : goal.loop-run-preserved
loop-run-preserved c =
    rw c.count-count.ensures.value (number_behind c.args.runs.now c.loop-run.run-index c.run-item.result c.loop-run.left c.loop-run-test.true c.run-item.is (omega arith) ∙ c.loop-run.invariant)
