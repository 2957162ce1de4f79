use Rattle.std.proofs.Common.{◌≡◌, ◌++◌, drop}
use Rattle.command_words.specs.Switches.{values}
use Rattle.command_words.proofs.switches.values.Given as goal

abbrev pub invariant-loop-item : goal.invariant-loop-item
invariant-loop-item l = l.words ++ values l.at (drop l.item-index l.item-items) ≡ values l.at l.item-items
