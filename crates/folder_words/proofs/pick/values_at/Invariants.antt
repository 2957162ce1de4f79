use Rattle.std.proofs.Common.{◌≡◌, ◌++◌, drop}
use Rattle.folder_words.specs.PickWords.{values_at}
use Rattle.folder_words.proofs.pick.values_at.Given as goal

abbrev pub invariant-loop-item : goal.invariant-loop-item
invariant-loop-item l = l.words ++ values_at l.at (drop l.item-index l.item-items) ≡ values_at l.at l.item-items
