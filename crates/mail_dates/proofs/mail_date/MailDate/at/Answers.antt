use Rattle.std.proofs.Common.{◌≡◌, FitsSigned, w32, w64, ◌∙◌, rules, arith, subst, sym}
use Rattle.std.proofs.lemmas.Int.{ints, to_z-of_z}
use Rattle.mail_dates.specs.Clocks.{day_number, second_of, clock_at}
use Rattle.mail_dates.proofs.Calendars.{since_1900, clock_of_shifted}
use Rattle.mail_dates.proofs.mail_date.MailDate.at.Goals as goal

pub placed-requires-clause-since : goal.placed-requires-clause-since
placed-requires-clause-since c = since_1900 c.date_of.result (omega (arith, ints, c.date_of.ensures, c.day_of.ensures.bound))

pub returns-clause-clock : goal.returns-clause-clock
returns-clause-clock c =
    let fits_now : FitsSigned w64 c.args.now = c.ranges.now in
    let fits_offset : FitsSigned w32 c.args.offset_minutes = c.ranges.offset_minutes in
    let fits_day : FitsSigned w64 c.day_of.result = search rules in
    let date = simp to_z-of_z at c.date_of.ensures in
    let seconds = simp to_z-of_z at c.shifted-seconds.ensures.value in
    let same : c.placed.result.offset ≡ c.args.offset_minutes = search rules in
    subst (λ o. clock_at (day_number c.placed.result) (second_of c.placed.result) o ≡ c.args.now) (sym same)
    (clock_of_shifted c.shifted-seconds.result (day_number c.placed.result) (second_of c.placed.result) c.args.now c.args.offset_minutes (c.placed.ensures.day ∙ date ∙ c.day_of.ensures.value) c.placed.ensures.second seconds)
