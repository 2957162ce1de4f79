use Rattle.std.proofs.Common.{◌≤◌, arith}
use Rattle.msg_ranges.proofs.Sums.{few_counted, counted_first, counted_before, counted_more, counted_end}
use Rattle.msg_ranges.proofs.counting.count_up_to.Goals as goal

pub loop-run-init : goal.loop-run-init
loop-run-init c = counted_first c.args.set.now.runs c.args.to c.place-i.result c.numbers_before-count.result c.place-i.ensures c.numbers_before-count.ensures

pub returns-then-to-from-clause-count : goal.returns-then-to-from-clause-count
returns-then-to-from-clause-count c = counted_before c.args.set.now.runs c.args.to c.loop-run.i c.loop-run.count c.in-Some.run' c.in-Some.ensures.at c.loop-run.invariant (omega (arith, c.get-from.ensures.value))

pub returns-then-to-from-clause-few : goal.returns-then-to-from-clause-few
returns-then-to-from-clause-few c = few_counted c.args.set.now.runs c.args.to c.loop-run.i c.loop-run.count c.run_at.ensures.valid c.loop-run.invariant

pub overflow_add-count-in-Some : goal.overflow_add-count-in-Some
overflow_add-count-in-Some c =
    let few = few_counted c.args.set.now.runs c.args.to c.loop-run.i c.loop-run.count c.run_at.ensures.valid c.loop-run.invariant in
    let small : c.from.result ≤ 999999 = omega (arith, c.get.ensures.range.1) in
    omega arith

pub loop-run-preserved : goal.loop-run-preserved
loop-run-preserved c = counted_more c.args.set.now.runs c.args.to c.loop-run.i c.loop-run.count _ c.in-Some.run' c.in-Some.ensures.at c.loop-run.invariant (omega (arith, c.get-from.ensures.value)) (omega (arith, c.get.ensures.value, c.get-from.ensures.value))

pub returns-clause-few : goal.returns-clause-few
returns-clause-few c = few_counted c.args.set.now.runs c.args.to c.loop-run.i c.loop-run.count c.run_at.ensures.valid c.loop-run.invariant

pub returns-clause-count : goal.returns-clause-count
returns-clause-count c = counted_end c.args.set.now.runs c.args.to c.loop-run.i c.loop-run.count c.loop-run.invariant c.in_default.ensures.at
