use Rattle.command_words.proofs.Items.{texts_all, texts_more}
use Rattle.store_words.specs.Values.{parts_in}
use Rattle.store_words.proofs.parts.parts.Goals as goal

pub loop-item-preserved : goal.loop-item-preserved
loop-item-preserved c = texts_more parts_in c.as_slice-item-items.result.now c.loop-item.item-index c.item-item.result c.loop-item.parts _ c.loop-item-test.true c.item-item.is c.in_ok-push_part.ensures c.loop-item.invariant

pub returns : goal.returns
returns c = rw c.as_slice-item-items.ensures at (texts_all parts_in c.as_slice-item-items.result.now c.loop-item.item-index c.loop-item.parts c.loop-item-test.false c.loop-item.invariant)
