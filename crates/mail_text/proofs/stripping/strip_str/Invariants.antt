use Rattle.std.proofs.Common.{◌≡◌}
use Rattle.mail_text.specs.declared.stripping.Spot.TheVariants.{Front}
use Rattle.mail_text.specs.OneLine.{line_from, spot_from}
use Rattle.mail_text.proofs.stripping.strip_str.Given as goal

abbrev pub invariant-loop-c : goal.invariant-loop-c
invariant-loop-c l = (l.line ≡ line_from Front l.yielded) × (l.spot ≡ spot_from Front l.yielded)
