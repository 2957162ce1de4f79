use Rattle.command_words.specs.MessageWords.{message_in}
use Rattle.command_words.proofs.Items.{texts_more, texts_all}
use Rattle.command_words.proofs.message_words.messages.Goals as goal

pub loop-item-preserved : goal.loop-item-preserved
loop-item-preserved c =
    texts_more message_in c.as_slice-item-items.result.now c.loop-item.item-index c.item-item.result c.loop-item.words _ c.loop-item-test.true c.item-item.is c.in_ok-push_message.ensures c.loop-item.invariant

pub returns : goal.returns
returns c = rw c.as_slice-item-items.ensures at (texts_all message_in c.as_slice-item-items.result.now c.loop-item.item-index c.loop-item.words c.loop-item-test.false c.loop-item.invariant)
