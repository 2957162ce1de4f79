use Rattle.std.proofs.Common.{◌≡◌, ◌++◌, length}
use Rattle.mail_text.specs.ShownBytes.{shown}
use Rattle.mail_text.proofs.shown_bytes.show_broken.Given as goal

abbrev pub invariant-loop-fault : goal.invariant-loop-fault
invariant-loop-fault l = l.text ++ shown l.rest ≡ shown l.bytes

abbrev pub decreases-loop-fault : goal.decreases-loop-fault
decreases-loop-fault l = length l.rest
