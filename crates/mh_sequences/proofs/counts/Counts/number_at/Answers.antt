use Rattle.std.proofs.Common.{◌-◌, length, take, drop, sym, ap, arith, rules, ◌∙◌}
use Rattle.std.specs.Prelude.{nat_le, slice_get}
use Rattle.std.proofs.lemmas.List.Sorted.{IsPartitionPoint-from_clause, IsPartitionedBy-leb}
use Rattle.mh_sequences.specs.Counts.{passed_at}
use Rattle.mh_sequences.specs.Runs.{numbers_of}
use Rattle.mh_sequences.proofs.Ends.{behind, numbers_parts, passed_by, passed_small, rise, runs_dropped, within}
use Rattle.mh_sequences.proofs.counts.Counts.number_at.Goals as goal

pub split_at-requires : goal.split_at-requires
split_at-requires c =
    let bound = c.partition_point-place.ensures.bound in
    let same = ap length c.deref.ensures.value in
    let all = within 0 c.args.self.now.ends.items c.args.runs.now c.requires.ends in
    omega (arith, bound, same, all)

pub overflow_sub-index : goal.overflow_sub-index
overflow_sub-index c =
    let point = IsPartitionPoint-from_clause (λ e. nat_le e c.args.index) c.deref.result.now c.partition_point-place.result c.partition_point-place.ensures.partitioned
    (IsPartitionedBy-leb (λ e. e) c.deref.result.now c.args.index (rise 0 c.deref.result.now c.args.runs.now (rw c.deref.ensures.value c.requires.ends)))
    (λ a r q w. search rules) in
    let small = passed_small c.deref.result.now c.partition_point-place.result c.args.index c.partition_point-place.ensures.bound point in
    let same = ap (λ l. passed_at l c.partition_point-place.result) c.deref.ensures.value in
    omega (arith, small, same, c.passed.ensures)

pub number_at-requires : goal.number_at-requires
number_at-requires c = rw c.split_at.ensures.back (runs_dropped c.args.runs.now c.partition_point-place.result c.requires.runs)

pub returns : goal.returns
returns c =
    let place = c.partition_point-place.result in
    let point = IsPartitionPoint-from_clause (λ e. nat_le e c.args.index) c.deref.result.now place c.partition_point-place.ensures.partitioned
    (IsPartitionedBy-leb (λ e. e) c.deref.result.now c.args.index (rise 0 c.deref.result.now c.args.runs.now (rw c.deref.ensures.value c.requires.ends)))
    (λ a r q w. search rules) in
    let small = passed_small c.deref.result.now place c.args.index c.partition_point-place.ensures.bound point in
    let same = ap (λ l. passed_at l place) c.deref.ensures.value in
    let size = ap length c.deref.ensures.value in
    let bound = c.partition_point-place.ensures.bound in
    let passed = c.passed.ensures ∙ passed_by c.args.self.now.ends.items c.args.runs.now place c.requires.ends (omega (arith, bound, size)) in
    c.number_at.ensures
    ∙ ap (λ l. slice_get (numbers_of l) (c.args.index - c.passed.result)) c.split_at.ensures.back
    ∙ behind (numbers_of (take place c.args.runs.now)) (numbers_of (drop place c.args.runs.now)) c.args.index c.passed.result passed (omega (arith, small, same, c.passed.ensures))
    ∙ ap (λ l. slice_get l c.args.index) (sym (numbers_parts c.args.runs.now place))
