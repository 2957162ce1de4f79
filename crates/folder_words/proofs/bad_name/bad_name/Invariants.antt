use Rattle.std.proofs.Common.{◌≡◌, drop}
use Rattle.folder_words.specs.BadNames.{bad_names}
use Rattle.folder_words.proofs.bad_name.bad_name.Given as goal

abbrev pub invariant-loop-item : goal.invariant-loop-item
invariant-loop-item l = bad_names (drop l.item-index l.item-items) ≡ bad_names l.item-items
