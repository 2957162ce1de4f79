use Rattle.std.proofs.Common.{◌≡◌, ◌++◌, drop}
use Rattle.command_words.specs.MessageWords.{messages}
use Rattle.command_words.proofs.message_words.messages.Given as goal

abbrev pub invariant-loop-item : goal.invariant-loop-item
invariant-loop-item l = l.words ++ messages (drop l.item-index l.item-items) ≡ messages l.item-items
