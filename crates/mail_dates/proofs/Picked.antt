-- The parts of dates by which messages are chosen.
use Rattle.std.proofs.Common.{◌≡◌, ℕ, ◌-◌, true, eq-eqb, Option, Some, List, length, take, drop, get_or, refl, ap, ◌∙◌, arith, take_all, length-drop, ℤ}
use Rattle.std.proofs.lemmas.List.{drop-drop}
use Rattle.mail_dates.specs.declared.mail_date.MailDate.{MailDate}
use Rattle.mail_dates.specs.declared.written.Clock.{Clock}
use Rattle.mail_dates.specs.declared.names.Case.TheVariants.{Any}
use Rattle.mail_dates.specs.Numbers.{decimal, short_number}
use Rattle.mail_dates.specs.Names.{month_in}
use Rattle.mail_dates.specs.Reading.{dated, first_by}
use Rattle.mail_dates.specs.Picking.{is_trimmed, written_date, midnight, long_year, numeric_date, clock_in, dated_at, written_by}
use Rattle.mh_base.specs.Characters.{is_blank, words}

pub numeric_read : (text : List ℕ) (offset : ℤ) (year month day : Option ℕ) (r : Option MailDate) (k : ℕ) → length text ≡ 10 → get_or text 4 0 ≡ 45 → get_or text 7 0 ≡ 45 → year ≡ long_year (take 4 text) →
    month ≡ decimal (take 2 (drop 5 text)) → day ≡ decimal (take k (drop 8 text)) → k ≡ length text - 8 → r ≡ dated year month day (Some midnight) offset → r ≡ numeric_date text offset
numeric_read text offset year month day r k size first second ey em ed ek er =
    let rest : take k (drop 8 text) ≡ drop 8 text = take_all k (drop 8 text) (omega (arith, length-drop 8 text, ek)) in
    er ∙ rw (eq-eqb (length text) 10 size, eq-eqb (get_or text 4 0) 45 first, eq-eqb (get_or text 7 0) 45 second, ey, em, ed, rest) refl

pub written_read : (l w1 w2 w3 : List (List ℕ)) (year month day : Option ℕ) (offset : ℤ) (clock : Option Clock) (r : Option MailDate) → day ≡ first_by short_number l → w1 ≡ drop 1 l → month ≡ first_by (month_in Any) w1 → w2 ≡ drop 1 w1 →
    year ≡ first_by long_year w2 → w3 ≡ drop 1 w2 → clock ≡ clock_in offset w3 → r ≡ dated_at year month day clock → r ≡ written_by offset l
written_read l w1 w2 w3 year month day offset clock r ed e1 em e2 ey e3 ec er =
    let two : w2 ≡ drop 2 l = e2 ∙ ap (drop 1) e1 ∙ drop-drop 1 1 l in
    let three : w3 ≡ drop 3 l = e3 ∙ ap (drop 1) two ∙ drop-drop 1 2 l in
    er ∙ rw (ed, em, ey, ec, e1, two, three) refl

pub trimmed_read : (text : List ℕ) (offset : ℤ) (r : Option MailDate) → is_trimmed text ≡ true → r ≡ written_by offset (words is_blank text) → r ≡ written_date text offset
trimmed_read text offset r e read = read ∙ rw e refl
