use Rattle.mail_dates.specs.Reading.{zone_in}
use Rattle.mail_dates.proofs.Fronts.{word_read, zone_long}
use Rattle.mail_dates.proofs.reading.next_zone.Goals as goal

pub returns-in-Some-clause-value : goal.returns-in-Some-clause-value
returns-in-Some-clause-value c = word_read zone_in _ _ c.in-Some.word c.front.result.now c.zone.result zone_long c.in-Some.ensures c.front.ensures c.zone.ensures.value
