use Rattle.command_words.proofs.Items.{IsLeft}
use Rattle.command_words.proofs.folders.folder_word.Given as goal

abbrev pub invariant-loop-item : goal.invariant-loop-item
invariant-loop-item l = IsLeft l.item-items l.item-index l.found
