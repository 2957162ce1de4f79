use Rattle.std.proofs.Common.{◌≡◌, length}
use Rattle.mail_dates.specs.Words.{is_separator}
use Rattle.mail_dates.specs.Left.{left}
use Rattle.mail_dates.proofs.word.first_byte.Given as goal
use Rattle.mh_base.specs.Characters.{words}

abbrev pub invariant-loop-byte : goal.invariant-loop-byte
invariant-loop-byte l = words is_separator (left l.text) ≡ words is_separator (left l.initial.text)

abbrev pub decreases-loop-byte : goal.decreases-loop-byte
decreases-loop-byte l = length (left l.text)
