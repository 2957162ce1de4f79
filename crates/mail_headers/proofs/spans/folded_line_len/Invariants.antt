use Rattle.std.proofs.Common.{◌≡◌, ◌+◌, ◌-◌, ◌≤◌, length, drop}
use Rattle.mail_headers.specs.Lines.{folded_len}
use Rattle.mail_headers.proofs.spans.folded_line_len.Given as goal

abbrev pub invariant-loop-count : goal.invariant-loop-count
invariant-loop-count l = (l.from ≤ length l.bytes) × (l.from + folded_len (drop l.from l.bytes) ≡ folded_len l.bytes)

abbrev pub decreases-loop-count : goal.decreases-loop-count
decreases-loop-count l = length l.bytes - l.from
