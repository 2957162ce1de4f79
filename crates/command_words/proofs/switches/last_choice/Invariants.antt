use Rattle.std.proofs.Common.{◌≡◌, drop}
use Rattle.std.specs.List.{flat_map}
use Rattle.command_words.specs.Switches.{choice_in, last_or, last_choice}
use Rattle.command_words.proofs.switches.last_choice.Given as goal

abbrev pub invariant-loop-item : goal.invariant-loop-item
invariant-loop-item l = last_or l.last (flat_map (choice_in l.on l.off) (drop l.item-index l.item-items)) ≡ last_choice l.on l.off l.item-items
