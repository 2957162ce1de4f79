use Rattle.std.proofs.Common.{arith}
use Rattle.mail_text.proofs.Marking.{one_marked, all_marked}
use Rattle.mail_text.proofs.marks.marks.Goals as goal

pub loop-c-preserved : goal.loop-c-preserved
loop-c-preserved c = record {
  deep = omega (arith, c.behind-inside.ensures.depth, c.loop-c.invariant.deep);
  left =
      one_marked c.loop-c.inside c.behind-inside.result c.place.result c.c-item.result c.loop-c.c-index c.args.text.now c.loop-c.marks.items _ _ c.loop-c-test.true c.c-item.is c.place.ensures c.behind-inside.ensures.value
      c.in_ok-push.ensures.items c.loop-c.invariant.left;
}

pub returns : goal.returns
returns c = all_marked c.loop-c.inside c.loop-c.c-index c.args.text.now c.loop-c.marks.items _ c.loop-c-test.false c.loop-c.invariant.left
