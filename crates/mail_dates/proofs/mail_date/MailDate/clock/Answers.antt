use Rattle.std.proofs.Common.{arith}
use Rattle.std.proofs.lemmas.Int.{ints}
use Rattle.jiff_core.proofs.DateLemmas.{epoch_day_range}
use Rattle.mail_dates.proofs.mail_date.MailDate.clock.Goals as goal

pub clock_at-requires-clause-day : goal.clock_at-requires-clause-day
clock_at-requires-clause-day c =
    let range = epoch_day_range c.date.result in
    (omega (arith, ints, range, c.number_of-day.ensures), omega (arith, ints, range, c.number_of-day.ensures))
