use Rattle.std.proofs.Common.{◌≤◌, arith, rules}
use Rattle.mh_sequences.proofs.MovedPairs.{moving_between, moving_ordered}
use Rattle.mh_sequences.proofs.moving.moving_in.Goals as goal

ordered : (c : goal.After-passed-end) → c.passed-start.result ≤ c.passed-end.result
ordered c =
    let ends = c.ends-from.ensures.value in
    let run = c.requires.run in
    moving_ordered c.args.pairs.now c.ends-from.result.0 c.ends-from.result.1 c.passed-start.result c.passed-end.result (omega arith) c.passed-start.ensures.value c.passed-end.ensures.value

pub slice_bounds-result-count : goal.slice_bounds-result-count
slice_bounds-result-count c = ordered c

pub slice_bounds-result-start : goal.slice_bounds-result-start
slice_bounds-result-start c = ordered c

pub returns : goal.returns
returns c =
    moving_between c.args.run.now c.args.pairs.now _ c.ends-from.result.0 c.ends-from.result.1 c.passed-start.result c.passed-end.result
    c.requires.order c.requires.run c.ends-from.ensures.value.0 c.ends-from.ensures.value.1 c.passed-start.ensures.value c.passed-end.ensures.value (search rules)
