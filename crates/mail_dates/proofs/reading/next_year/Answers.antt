use Rattle.mail_dates.specs.Numbers.{year_in}
use Rattle.mail_dates.proofs.Fronts.{word_read, year_long}
use Rattle.mail_dates.proofs.reading.next_year.Goals as goal

pub returns-in-Some-clause-value : goal.returns-in-Some-clause-value
returns-in-Some-clause-value c = word_read year_in _ _ c.in-Some.word c.front.result.now c.year.result year_long c.in-Some.ensures c.front.ensures c.year.ensures.value
