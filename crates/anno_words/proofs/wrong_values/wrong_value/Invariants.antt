use Rattle.std.proofs.Common.{◌≡◌, drop}
use Rattle.anno_words.specs.WrongValues.{wrong_values}
use Rattle.anno_words.proofs.wrong_values.wrong_value.Given as goal

abbrev pub invariant-loop-item : goal.invariant-loop-item
invariant-loop-item l = wrong_values (drop l.item-index l.item-items) ≡ wrong_values l.item-items
