use Rattle.std.proofs.Common.{◌≡◌, ◌∷◌, take}
use Rattle.std.specs.List.{flat_map}
use Rattle.mh_sequences.specs.Reading.{escape}
use Rattle.sequence_commits.proofs.ending.ending_of.Given as goal

abbrev pub invariant-loop-byte : goal.invariant-loop-byte
invariant-loop-byte l = l.text ≡ 45 ∷ flat_map escape (take l.byte-index l.byte-items)
