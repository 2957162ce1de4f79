use Rattle.command_words.proofs.Lasts.{last_all, last_more}
use Rattle.sort_words.specs.Keys.{key_in}
use Rattle.sort_words.proofs.keys.key.Goals as goal

pub loop-item-preserved : goal.loop-item-preserved
loop-item-preserved c =
    last_more key_in c.as_slice-item-items.result.now c.loop-item.item-index c.item-item.result c.loop-item.key _ _ c.loop-item-test.true c.item-item.is c.in_ok-key-2.ensures c.loop-item.invariant

pub returns : goal.returns
returns c = rw c.as_slice-item-items.ensures at (last_all key_in c.as_slice-item-items.result.now c.loop-item.item-index c.loop-item.key _ c.loop-item-test.false c.loop-item.invariant)
