use Rattle.look_words.specs.LookWords.{width_in}
use Rattle.command_words.proofs.Lasts.{last_all, last_more}
use Rattle.look_words.proofs.look.last_width.Goals as goal

pub loop-item-preserved : goal.loop-item-preserved
loop-item-preserved c =
    last_more width_in c.as_slice-item-items.result.now c.loop-item.item-index c.item-item.result c.loop-item.width _ _ c.loop-item-test.true c.item-item.is c.width_by-width.ensures c.loop-item.invariant

pub returns : goal.returns
returns c = rw c.as_slice-item-items.ensures at (last_all width_in c.as_slice-item-items.result.now c.loop-item.item-index c.loop-item.width _ c.loop-item-test.false c.loop-item.invariant)
