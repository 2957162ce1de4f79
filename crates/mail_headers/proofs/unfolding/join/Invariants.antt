use Rattle.std.proofs.Common.{◌≡◌, ◌++◌, drop}
use Rattle.mail_headers.specs.Unfolding.{joined}
use Rattle.mail_headers.proofs.unfolding.join.Given as goal

abbrev pub invariant-loop-i : goal.invariant-loop-i
invariant-loop-i l = l.text.items ++ joined (drop l.i l.value) ≡ joined l.value
