use Rattle.std.proofs.Common.{refl}
use Rattle.mhbuild_compose.proofs.Walking.{protected_end, protected_more}
use Rattle.mhbuild_compose.proofs.head.put_protected.Goals as goal

pub loop-byte-preserved : goal.loop-byte-preserved
loop-byte-preserved c = protected_more c.args.text.now c.loop-byte.out c.put_protected_byte.new.out _ c.loop-byte.byte-index _ c.loop-byte-test.true refl c.in_ok-put_protected_byte.ensures c.loop-byte.invariant

pub returns : goal.returns
returns c = protected_end c.args.text.now c.loop-byte.out _ c.loop-byte.byte-index c.loop-byte-test.false c.loop-byte.invariant
