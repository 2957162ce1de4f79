use Rattle.std.proofs.Common.{arith}
use Rattle.mhbuild_compose.proofs.Walking.{tops_end, tops_more}
use Rattle.mhbuild_compose.proofs.root.tops.Goals as goal

pub loop-item-preserved : goal.loop-item-preserved
loop-item-preserved c =
    let few = c.loop-item.invariant.few in
    let shallow = c.loop-item.invariant.shallow in
    let le = c.is_top-count.ensures.inside in
    let deep = c.depth_behind-depth.ensures.inside in
    record {
      all = tops_more c.args.items.now c.loop-item.count c.loop-item.depth c.loop-item.item-index c.is_top-count.result c.depth_behind-depth.result _ _ c.loop-item-test.true c.item-item.is c.is_top-count.ensures.value c.depth_behind-depth.ensures.value c.loop-item.invariant.all;
      few = omega arith;
      shallow = omega arith;
    }

pub returns : goal.returns
returns c = tops_end c.args.items.now c.loop-item.count c.loop-item.depth c.loop-item.item-index c.loop-item-test.false c.loop-item.invariant.all
