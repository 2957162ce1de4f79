use Rattle.command_words.proofs.Items.{choice_more, choice_all}
use Rattle.command_words.proofs.switches.last_choice.Goals as goal

pub loop-item-preserved : goal.loop-item-preserved
loop-item-preserved c =
    choice_more c.args.on c.args.off c.as_slice-item-items.result.now c.loop-item.item-index c.item-item.result c.loop-item.last _ c.loop-item-test.true c.item-item.is c.choice_by-last.ensures c.loop-item.invariant

pub returns : goal.returns
returns c = rw c.as_slice-item-items.ensures at (choice_all c.args.on c.args.off c.as_slice-item-items.result.now c.loop-item.item-index c.loop-item.last c.loop-item-test.false c.loop-item.invariant)
