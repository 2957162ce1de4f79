use Rattle.std.proofs.Common.{◌≡◌, ◌++◌, length}
use Rattle.mail_text.specs.Encodings.{q_decoded}
use Rattle.mail_text.proofs.encoding.q_decode.Given as goal

abbrev pub invariant-loop-first : goal.invariant-loop-first
invariant-loop-first l = l.bytes.items ++ q_decoded l.rest ≡ q_decoded l.text

abbrev pub decreases-loop-first : goal.decreases-loop-first
decreases-loop-first l = length l.rest
