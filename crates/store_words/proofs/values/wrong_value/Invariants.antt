use Rattle.std.proofs.Common.{◌≡◌, drop}
use Rattle.store_words.specs.Values.{wrong_values}
use Rattle.store_words.proofs.values.wrong_value.Given as goal

abbrev pub invariant-loop-item : goal.invariant-loop-item
invariant-loop-item l = wrong_values (drop l.item-index l.item-items) ≡ wrong_values l.item-items
