use Rattle.std.proofs.Common.{sym, ◌∙◌, FitsSigned, w16}
use Rattle.std.proofs.lemmas.Int.{to_z-of_z}
use Rattle.mail_dates.proofs.Picked.{written_read, trimmed_read}
use Rattle.mail_dates.proofs.written.written_date.Goals as goal
use Rattle.mh_base.specs.Characters.{is_blank, words}

pub returns-clause-value : goal.returns-clause-value
returns-clause-value c =
    let fits : FitsSigned w16 c.args.offset = c.ranges.offset in
    let clock = simp to_z-of_z at c.clock_in.ensures.value in
    trimmed_read c.args.text.now c.args.offset c.dated_at.result (sym c.is_trimmed.ensures ∙ c.if-not-is_trimmed.false)
    (written_read (words is_blank c.args.text.now) _ _ _ _ _ _ c.args.offset c.clock_in.result c.dated_at.result c.day_first-day.ensures.value c.day_first-day.ensures.rest c.month_first-month.ensures.value c.month_first-month.ensures.rest
    c.year_first-year.ensures.value c.year_first-year.ensures.rest clock c.dated_at.ensures.value)
