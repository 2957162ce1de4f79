use Rattle.std.proofs.Common.{ap, ◌∙◌, FitsSigned, w16, rules}
use Rattle.std.proofs.lemmas.Int.{to_z-of_z}
use Rattle.mail_dates.specs.Words.{outside, is_separator}
use Rattle.mail_dates.specs.Reading.{behind_weekday, date_from, date_in}
use Rattle.mail_dates.proofs.Fronts.{date_read}
use Rattle.mail_dates.proofs.mail_date.MailDate.read.Goals as goal
use Rattle.mh_base.specs.Characters.{words}

pub returns-clause-value : goal.returns-clause-value
unfolding date_in
returns-clause-value c =
    let fits : FitsSigned w16 c.next_offset-offset.result = search rules in
    let value = simp to_z-of_z at c.dated_if.ensures.value in
    date_read (behind_weekday (words is_separator (outside 0 c.new-text.result.rest.now))) _ _ _ _ _ _ _ _ _ c.dated_if.result c.first_day-day.ensures.value c.first_day-day.ensures.rest c.next_month-month.ensures.value c.next_month-month.ensures.rest
    c.next_year-year.ensures.value c.next_year-year.ensures.rest c.next_time-time.ensures.value c.next_time-time.ensures.rest c.next_offset-offset.ensures.value value
    ∙ ap (λ t. date_from (behind_weekday (words is_separator (outside 0 t)))) c.new-text.ensures
