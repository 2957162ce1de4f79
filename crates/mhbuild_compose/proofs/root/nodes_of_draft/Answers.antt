use Rattle.mhbuild_compose.proofs.Noding.{nodes_end}
use Rattle.mhbuild_compose.proofs.root.nodes_of_draft.Goals as goal

pub returns : goal.returns
returns c =
    nodes_end c.args.items.now c.loop-item.item-index c.tops-count.result c.loop-item.nodes.list.items c.push_back.new.list.items c.args.givens.now c.loop-item.nodes.givens.now c.loop-item-test.false c.tops-count.ensures c.in_ok-push_back.ensures c.loop-item.invariant
