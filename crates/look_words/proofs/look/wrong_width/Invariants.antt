use Rattle.std.proofs.Common.{◌≡◌, drop}
use Rattle.look_words.specs.LookWords.{wrong_widths}
use Rattle.look_words.proofs.look.wrong_width.Given as goal

abbrev pub invariant-loop-item : goal.invariant-loop-item
invariant-loop-item l = wrong_widths (drop l.item-index l.item-items) ≡ wrong_widths l.item-items
