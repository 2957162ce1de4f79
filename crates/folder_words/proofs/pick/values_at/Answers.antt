use Rattle.folder_words.specs.PickWords.{value_at}
use Rattle.command_words.proofs.Items.{texts_more, texts_all}
use Rattle.folder_words.proofs.pick.values_at.Goals as goal

pub loop-item-preserved : goal.loop-item-preserved
loop-item-preserved c =
    texts_more (value_at c.args.at) c.as_slice-item-items.result.now c.loop-item.item-index c.item-item.result c.loop-item.words _ c.loop-item-test.true c.item-item.is c.in_ok-push_value.ensures c.loop-item.invariant

pub returns : goal.returns
returns c = rw c.as_slice-item-items.ensures at (texts_all (value_at c.args.at) c.as_slice-item-items.result.now c.loop-item.item-index c.loop-item.words c.loop-item-test.false c.loop-item.invariant)
