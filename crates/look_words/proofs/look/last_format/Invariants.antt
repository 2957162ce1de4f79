use Rattle.std.proofs.Common.{◌≡◌, drop}
use Rattle.std.specs.List.{flat_map}
use Rattle.look_words.specs.LookWords.{format_in, look_of}
use Rattle.look_words.proofs.look.last_format.Given as goal
use Rattle.command_words.specs.Switches.{last_behind}

abbrev pub invariant-loop-item : goal.invariant-loop-item
invariant-loop-item l = last_behind l.format (flat_map format_in (drop l.item-index l.item-items)) ≡ (look_of l.item-items).format
