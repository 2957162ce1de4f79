use Rattle.std.proofs.Common.{ap, sym, ◌∙◌}
use Rattle.mail_dates.specs.Reading.{date_in}
use Rattle.mail_headers.specs.Fields.{fields_of, first_value}
use Rattle.sortm_plans.specs.Keys.{clock_of_date, date_by, date_key}
use Rattle.sortm_command.proofs.keys.date_key.Goals as goal

pub returns-in_ok-text-in-Some : goal.returns-in_ok-text-in-Some
unfolding date_key
returns-in_ok-text-in-Some c =
    c.clock_of_text.ensures ∙ ap (λ t. clock_of_date (date_in t)) (c.as_slice.ensures ∙ c.in_ok-text-in-Some.ensures)
    ∙ ap date_by (sym (ap (λ m. first_value c.args.field.now (fields_of m)) (sym c.cut.ensures.bytes) ∙ c.in-Some.ensures))

pub returns-in-None : goal.returns-in-None
unfolding date_key
returns-in-None c = ap date_by (sym (ap (λ m. first_value c.args.field.now (fields_of m)) (sym c.cut.ensures.bytes) ∙ c.in-None.ensures))
