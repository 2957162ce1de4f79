use Rattle.std.proofs.Common.{◌≡◌, ◌++◌, take}
use Rattle.mail_dates.proofs.showing.push_all.Given as goal

abbrev pub invariant-loop-byte : goal.invariant-loop-byte
invariant-loop-byte l = l.text ≡ l.initial.text ++ take l.byte-index l.bytes
