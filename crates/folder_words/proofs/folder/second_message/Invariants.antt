use Rattle.std.proofs.Common.{◌≡◌, drop}
use Rattle.command_words.specs.MessagePlaces.{message_places}
use Rattle.folder_words.specs.TellWords.{second_from}
use Rattle.folder_words.proofs.folder.second_message.Given as goal
use Rattle.command_words.specs.BadValues.{second_of}

abbrev pub invariant-loop-item : goal.invariant-loop-item
invariant-loop-item l = second_from l.seen (message_places (drop l.item-index l.item-items)) ≡ second_of (message_places l.item-items)
