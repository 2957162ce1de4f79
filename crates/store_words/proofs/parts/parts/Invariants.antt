use Rattle.std.proofs.Common.{◌≡◌, ◌++◌, drop}
use Rattle.std.specs.List.{flat_map}
use Rattle.store_words.specs.Values.{parts_in}
use Rattle.store_words.proofs.parts.parts.Given as goal

abbrev pub invariant-loop-item : goal.invariant-loop-item
invariant-loop-item l = l.parts ++ flat_map parts_in (drop l.item-index l.item-items) ≡ flat_map parts_in l.item-items
