use Rattle.mail_dates.proofs.Calendars.{number_of_epoch}
use Rattle.mail_dates.proofs.days.epoch.Goals as goal

pub returns : goal.returns
returns c = number_of_epoch c.in-Ok.date c.in-Ok.ensures.value
