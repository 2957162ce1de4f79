use Rattle.std.proofs.Common.{◌≡◌, drop}
use Rattle.command_words.specs.MessagePlaces.{message_places}
use Rattle.command_words.proofs.naming.first_message.Given as goal

abbrev pub invariant-loop-item : goal.invariant-loop-item
invariant-loop-item l = message_places (drop l.item-index l.item-items) ≡ message_places l.item-items
