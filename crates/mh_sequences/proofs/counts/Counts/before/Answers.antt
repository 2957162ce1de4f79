use Rattle.std.proofs.Common.{◌≤◌, ◌-◌, length, take, drop, arith, ◌∙◌}
use Rattle.mh_sequences.proofs.Counting.{few}
use Rattle.mh_sequences.proofs.Ends.{numbers_between, passed_by, runs_dropped, runs_taken}
use Rattle.mh_sequences.proofs.counts.Counts.before.Goals as goal

pub total-requires : goal.total-requires
total-requires c = runs_taken (drop c.min-counted.result c.args.runs.now) (c.args.place - c.min-counted.result) (runs_dropped c.args.runs.now c.min-counted.result c.requires.runs)

pub returns : goal.returns
returns c =
    let counted : c.min-counted.result ≤ length c.args.self.now.ends.items = omega (arith, c.min-counted.ensures, c.len.ensures) in
    let passed = c.passed.ensures ∙ passed_by c.args.self.now.ends.items c.args.runs.now c.min-counted.result c.requires.ends counted in
    let rest = c.total.ensures in
    let parts = numbers_between c.args.runs.now c.min-counted.result c.args.place (omega (arith, c.min-counted.ensures)) in
    omega (arith, passed, rest, parts)

pub overflow_add-result : goal.overflow_add-result
overflow_add-result c =
    let all = few (take c.args.place c.args.runs.now) (runs_taken c.args.runs.now c.args.place c.requires.runs) in
    let sum = returns c in
    omega (arith, all, sum)
