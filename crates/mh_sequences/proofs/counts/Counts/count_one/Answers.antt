use Rattle.std.proofs.Common.{◌≡◌, ◌<◌, ◌+◌, length, get_or, subst, arith}
use Rattle.std.specs.Prelude.{ℕ}
use Rattle.mh_sequences.specs.Counts.{passed_at}
use Rattle.mh_sequences.proofs.Counting.{ordered}
use Rattle.mh_sequences.proofs.Ends.{passed_few, pushed}
use Rattle.mh_sequences.proofs.counts.Counts.count_one.Goals as goal

pub count-requires : goal.count-requires
count-requires c = ordered c.args.runs.now c.requires.runs c.len-place.result c.index-runs-place.result c.if-place-runs.true c.index-runs-place.is

pub overflow_add-end : goal.overflow_add-end
overflow_add-end c =
    let some = passed_few c.args.self.now.ends.items c.args.runs.now c.len-place.result c.requires.runs c.requires.ends (omega (arith, c.len-place.ensures)) in
    omega (arith, some, c.passed.ensures, c.count.ensures.small)

pub overflow_cast-end : goal.overflow_cast-end
overflow_cast-end c =
    let some = passed_few c.args.self.now.ends.items c.args.runs.now c.len-place.result c.requires.runs c.requires.ends (omega (arith, c.len-place.ensures)) in
    omega (arith, some, c.passed.ensures, c.count.ensures.small)

pub returns-then-place-runs : goal.returns-then-place-runs
returns-then-place-runs c =
    let ends = c.args.self.now.ends.items in
    let at : c.len-place.result ≡ length ends = omega (arith, c.len-place.ensures) in
    let lt : length ends < length c.args.runs.now = omega (arith, at, c.if-place-runs.true) in
    let is : c.index-runs-place.result ≡ get_or c.args.runs.now (length ends) c.index-runs-place.result = subst (λ (k : ℕ). c.index-runs-place.result ≡ get_or c.args.runs.now k c.index-runs-place.result) at c.index-runs-place.is in
    let passed : c.passed.result ≡ passed_at ends (length ends) = subst (λ (k : ℕ). c.passed.result ≡ passed_at ends k) at c.passed.ensures in
    pushed ends c.push.new.self.items c.args.runs.now c.index-runs-place.result (c.passed.result + c.count.result) c.push.result c.requires.ends lt is
    (omega (arith, passed, c.count.ensures.value)) c.push.ensures.items
