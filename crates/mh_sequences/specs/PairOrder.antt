-- Pairs in order.
use Rattle.std.specs.Prelude.{List}
use Rattle.std.specs.List.Sorted.{IsNonDecreasingBy}
use Rattle.mh_sequences.specs.declared.mark.Pair.{Pair}

-- pairs in order of the numbers that they move
abbrev pub IsInOrder : List Pair → Type 0
IsInOrder pairs = IsNonDecreasingBy (λ (p : Pair). p.from) pairs
