use Rattle.mail_dates.specs.Numbers.{time_in}
use Rattle.mail_dates.proofs.Fronts.{word_read, time_long}
use Rattle.mail_dates.proofs.reading.next_time.Goals as goal

pub returns-in-Some-clause-value : goal.returns-in-Some-clause-value
returns-in-Some-clause-value c = word_read time_in _ _ c.in-Some.word c.front.result.now c.read.result time_long c.in-Some.ensures c.front.ensures c.read.ensures.value
