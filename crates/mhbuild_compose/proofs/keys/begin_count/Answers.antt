use Rattle.std.proofs.Common.{arith}
use Rattle.mhbuild_compose.proofs.Walking.{begins_end, begins_more}
use Rattle.mhbuild_compose.proofs.keys.begin_count.Goals as goal

pub loop-node-preserved : goal.loop-node-preserved
loop-node-preserved c =
    let few = c.loop-node.invariant.few in
    let le = c.begin_of-count.ensures.inside in
    record { all = begins_more c.args.nodes.now c.loop-node.count c.loop-node.node-index c.begin_of-count.result _ _ c.loop-node-test.true c.node-item.is c.begin_of-count.ensures.value c.loop-node.invariant.all; few = omega arith }

pub returns : goal.returns
returns c = begins_end c.args.nodes.now c.loop-node.count c.loop-node.node-index c.loop-node-test.false c.loop-node.invariant.all
