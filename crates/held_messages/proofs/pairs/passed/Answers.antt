use Rattle.std.proofs.Common.{rules}
use Rattle.std.proofs.lemmas.List.Sorted.{IsPartitionPoint-from_clause}
use Rattle.held_messages.specs.HeldPairs.{is_before}
use Rattle.held_messages.proofs.Inserting.{pairs_part, point_of_pairs}
use Rattle.held_messages.proofs.pairs.passed.Goals as goal

pub returns-clause-value : goal.returns-clause-value
returns-clause-value c =
    point_of_pairs c.args.pair.now c.args.pairs.now c.partition_point.result c.partition_point.ensures.bound
    (IsPartitionPoint-from_clause (λ k. is_before k c.args.pair.now) c.args.pairs.now c.partition_point.result c.partition_point.ensures.partitioned
    (pairs_part c.args.pair.now c.args.pairs.now c.requires)
    (λ a r q w. search rules))
