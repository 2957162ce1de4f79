use Rattle.std.proofs.Common.{◌≡◌, drop}
use Rattle.sort_words.specs.Keys.{wrong_names}
use Rattle.sort_words.proofs.keys.wrong_name.Given as goal

abbrev pub invariant-loop-item : goal.invariant-loop-item
invariant-loop-item l = wrong_names (drop l.item-index l.item-items) ≡ wrong_names l.item-items
