use Rattle.std.proofs.Common.{◌∙◌, refl, arith, length-set}
use Rattle.pick_expr.proofs.PassedBytes.{none_idle, idle_more}
use Rattle.pick_expr.proofs.resting.idle_bytes.Goals as goal

pub loop-byte-init : goal.loop-byte-init
loop-byte-init c = (none_idle c.args.elements.now c.args.to_end c.args.places 256, refl)

pub loop-byte-preserved : goal.loop-byte-preserved
loop-byte-preserved c = (
  idle_more c.args.elements.now c.args.to_end c.args.places c.step.result c.loop-byte.idle c.loop-byte.byte c.is.result c.loop-byte.invariant.0 (omega (arith, c.loop-byte.invariant.1)) c.step.ensures c.is.ensures,
  length-set c.loop-byte.idle _ _ ∙ c.loop-byte.invariant.1,
)
