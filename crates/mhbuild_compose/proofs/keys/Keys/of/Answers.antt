use Rattle.mhbuild_compose.specs.Keys.{node_takes}
use Rattle.mhbuild_compose.proofs.Walking.{any_end, any_more}
use Rattle.mhbuild_compose.proofs.keys.Keys.of.Goals as goal

pub loop-node-preserved : goal.loop-node-preserved
loop-node-preserved c = λ d. any_more (node_takes c.args.mark.now d) c.args.nodes.now c.loop-node.node-index _ _ _ _ _ c.loop-node-test.true c.node-item.is (c.in_ok-add_node.ensures d) (c.loop-node.invariant d)

pub returns : goal.returns
returns c = λ d. any_end (node_takes c.args.mark.now d) c.args.nodes.now c.loop-node.node-index _ _ c.loop-node-test.false (c.loop-node.invariant d)
