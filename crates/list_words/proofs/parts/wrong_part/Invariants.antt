use Rattle.std.proofs.Common.{◌≡◌, drop}
use Rattle.list_words.specs.Parts.{wrong_parts}
use Rattle.list_words.proofs.parts.wrong_part.Given as goal

abbrev pub invariant-loop-item : goal.invariant-loop-item
invariant-loop-item l = wrong_parts (drop l.item-index l.item-items) ≡ wrong_parts l.item-items
