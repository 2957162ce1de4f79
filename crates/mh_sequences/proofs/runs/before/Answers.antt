use Rattle.std.specs.Prelude.{nat_lt}
use Rattle.std.proofs.Common.{rules}
use Rattle.std.proofs.lemmas.List.Sorted.{IsPartitionPoint-from_clause, IsPartitionedBy-ltb}
use Rattle.mh_sequences.specs.declared.run.Run.{Run}
use Rattle.mh_sequences.proofs.OrderedRuns.{runs_rise, point_is_prefix}
use Rattle.mh_sequences.proofs.runs.before.Goals as goal

pub returns-clause-value : goal.returns-clause-value
returns-clause-value c =
    point_is_prefix (λ r. nat_lt r.to c.args.n) c.args.runs.now c.partition_point.result (record { from = 0; to = 0 }) c.partition_point.ensures.bound
    (IsPartitionPoint-from_clause (λ r. nat_lt r.to c.args.n) c.args.runs.now c.partition_point.result c.partition_point.ensures.partitioned
    (IsPartitionedBy-ltb (λ (r : Run). r.to) c.args.runs.now c.args.n (runs_rise c.args.runs.now c.requires))
    (λ a r q w. search rules))
