use Rattle.std.proofs.Common.{◌≡◌, ◌+◌, ◌≤◌, length}
use Rattle.mail_dates.specs.Words.{outside}
use Rattle.mail_dates.proofs.outside.Outside.next.Given as goal

abbrev pub invariant-loop-byte : goal.invariant-loop-byte
invariant-loop-byte l = record {
  fits : l.depth + length l.self.rest.now ≤ length l.initial.self.rest.now;
  left : outside l.depth l.self.rest.now ≡ outside 0 l.initial.self.rest.now;
}

abbrev pub decreases-loop-byte : goal.decreases-loop-byte
decreases-loop-byte l = length l.self.rest.now
