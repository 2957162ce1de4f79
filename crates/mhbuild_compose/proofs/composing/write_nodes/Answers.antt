use Rattle.std.proofs.Common.{◌∙◌}
use Rattle.mhbuild_compose.proofs.Texts.{writes_end, writes_more}
use Rattle.mhbuild_compose.proofs.composing.write_nodes.Goals as goal

pub loop-node-preserved : goal.loop-node-preserved
loop-node-preserved c =
    let told = c.in_ok-add.ensures in
    record {
      run = told.run ∙ c.loop-node.invariant.run;
      whole = writes_more c.args.nodes.now c.loop-node.node-index _ _ c.args.run c.loop-node.writer.run c.loop-node.writer.out c.add.new.self.out _ c.loop-node.writer.levels c.add.new.self.levels c.loop-node.writer.keys.now c.add.new.self.keys.now c.loop-node.writer.flags.now c.add.new.self.flags.now
          c.loop-node-test.true c.node-item.is c.loop-node.invariant.run told.out told.levels told.flags told.keys c.loop-node.invariant.whole;
    }

pub returns : goal.returns
returns c = writes_end c.args.nodes.now c.loop-node.node-index c.args.run c.loop-node.writer.out _ c.loop-node.writer.levels c.loop-node.writer.keys.now c.loop-node.writer.flags.now c.loop-node-test.false c.loop-node.invariant.whole
