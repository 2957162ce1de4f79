use Rattle.std.proofs.Common.{arith}
use Rattle.std.proofs.lemmas.Int.{ints}
use Rattle.mail_dates.proofs.mail_date.MailDate.second_of_day.Goals as goal

pub overflow_add-result-2 : goal.overflow_add-result-2
overflow_add-result-2 c = omega (arith, ints, c.requires.hour, c.requires.minute, c.requires.second)

pub returns-clause-value : goal.returns-clause-value
returns-clause-value c = omega (arith, ints, c.requires.hour, c.requires.minute, c.requires.second)

pub returns-clause-bound : goal.returns-clause-bound
returns-clause-bound c = (omega (arith, ints, c.requires.hour, c.requires.minute, c.requires.second), omega (arith, ints, c.requires.hour, c.requires.minute, c.requires.second))
