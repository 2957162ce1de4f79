use Rattle.std.proofs.Common.{◌≡◌, drop}
use Rattle.mh_sequences.specs.Marks.{moved_to}
use Rattle.mh_sequences.proofs.moving.new_number.Given as goal

abbrev pub invariant-loop-pair : goal.invariant-loop-pair
invariant-loop-pair l = moved_to (drop l.pair-index l.pairs) l.n ≡ moved_to l.pairs l.n
