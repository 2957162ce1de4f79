use Rattle.std.proofs.Common.{refl, FitsSigned, w16}
use Rattle.std.proofs.lemmas.Int.{to_z-of_z}
use Rattle.mail_dates.proofs.Picked.{numeric_read}
use Rattle.mail_dates.proofs.numeric.numeric_date.Goals as goal

pub returns-then-text-eq45-2-clause-value : goal.returns-then-text-eq45-2-clause-value
returns-then-text-eq45-2-clause-value c =
    let fits : FitsSigned w16 c.args.offset = c.ranges.offset in
    let value = simp to_z-of_z at c.dated_if.ensures.value in
    numeric_read c.args.text.now c.args.offset c.long_year-year.result c.two_digits-month.result c.two_digits-day.result c.dated_if.result _ c.if-text-eq10.true c.if-text-eq45.true c.if-text-eq45-2.true
    c.long_year-year.ensures.value c.two_digits-month.ensures.value c.two_digits-day.ensures.value refl value
