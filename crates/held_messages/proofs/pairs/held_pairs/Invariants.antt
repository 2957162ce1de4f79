use Rattle.std.proofs.Common.{drop}
use Rattle.held_messages.proofs.Inserting.{ArePutSoFar}
use Rattle.held_messages.proofs.pairs.held_pairs.Given as goal

abbrev pub invariant-loop-pair : goal.invariant-loop-pair
invariant-loop-pair l = ArePutSoFar l.run l.names (drop l.pair-index l.pair-items) l.pairs.items
