use Rattle.std.proofs.Common.{arith}
use Rattle.std.proofs.lemmas.Int.{ints}
use Rattle.mail_dates.proofs.mail_date.clock_at.Goals as goal

pub returns : goal.returns
returns c = omega (arith, ints, c.requires.day, c.requires.second, c.requires.offset)
