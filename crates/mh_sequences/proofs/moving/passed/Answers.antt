use Rattle.std.specs.Prelude.{nat_lt}
use Rattle.std.proofs.Common.{rules}
use Rattle.std.proofs.lemmas.List.Sorted.{IsPartitionPoint-from_clause, IsPartitionedBy-ltb}
use Rattle.mh_sequences.specs.declared.mark.Pair.{Pair}
use Rattle.mh_sequences.proofs.OrderedRuns.{point_is_prefix}
use Rattle.mh_sequences.proofs.moving.passed.Goals as goal

pub returns-clause-value : goal.returns-clause-value
returns-clause-value c =
    point_is_prefix (λ (p : Pair). nat_lt p.from c.args.n) c.args.pairs.now c.partition_point.result (record { from = 0; to = 0 }) c.partition_point.ensures.bound
    (IsPartitionPoint-from_clause (λ (p : Pair). nat_lt p.from c.args.n) c.args.pairs.now c.partition_point.result c.partition_point.ensures.partitioned
    (IsPartitionedBy-ltb (λ (p : Pair). p.from) c.args.pairs.now c.args.n c.requires)
    (λ a r q w. search rules))
