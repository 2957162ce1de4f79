use Rattle.held_messages.proofs.Inserting.{AreFoundSoFar}
use Rattle.held_messages.proofs.pairs.found.Given as goal

abbrev pub invariant-loop-name : goal.invariant-loop-name
invariant-loop-name l = AreFoundSoFar l.run l.names l.name-index l.pairs.items
