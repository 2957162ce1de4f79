use Rattle.std.proofs.Common.{refl}
use Rattle.inc_plans.specs.Inc.{heading}
use Rattle.inc_command.proofs.heading.heading.Goals as goal

pub returns : goal.returns
unfolding heading
returns c = rw (c.in_ok-extend-2.ensures.ok, c.in_ok-extend.ensures.ok, c.in_ok-text.ensures, c.as_bytes.ensures.value, c.as_str.ensures.bytes, c.text.ensures.value) refl
