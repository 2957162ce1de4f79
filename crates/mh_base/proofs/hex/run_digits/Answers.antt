use Rattle.std.proofs.Common.{arith}
use Rattle.std.proofs.Math.ListN.{length-set}
use Rattle.mh_base.proofs.RunDigits.{turn, written}
use Rattle.mh_base.proofs.hex.run_digits.Goals as goal

pub loop-at-preserved : goal.loop-at-preserved
loop-at-preserved c = record {
  inside = rw length-set (omega arith);
  size = rw length-set c.loop-at.invariant.size;
  written = turn _ _ _ _ _ c.loop-at-test.true c.loop-at.invariant.inside c.hex_digit.ensures c.loop-at.invariant.written;
}

pub returns : goal.returns
returns c = written _ _ _ _ c.loop-at-test.false c.loop-at.invariant.written
