use Rattle.std.proofs.Common.{rules}
use Rattle.std.proofs.lemmas.List.Sorted.{IsPartitionPoint-from_clause}
use Rattle.mh_sequences.specs.Sequences.{told}
use Rattle.mh_sequences.specs.Placing.{stands_before}
use Rattle.mh_sequences.proofs.Searching.{names_part, point_of_names}
use Rattle.mh_sequences.proofs.place.passed.Goals as goal

pub returns-clause-value : goal.returns-clause-value
returns-clause-value c =
    point_of_names c.args.name.now c.args.users.now c.partition_point.result c.partition_point.ensures.bound
    (IsPartitionPoint-from_clause (λ u. stands_before c.args.name.now (told u)) c.args.users.now c.partition_point.result c.partition_point.ensures.partitioned
    (names_part c.args.name.now c.args.users.now c.requires)
    (λ a r q w. search rules))
