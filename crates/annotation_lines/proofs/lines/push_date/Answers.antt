use Rattle.std.proofs.Common.{◌≡◌, ap, ◌∙◌, rules}
use Rattle.std.specs.Str.{encode_utf8_all}
use Rattle.mail_dates.specs.Clocks.{IsMailDate}
use Rattle.mail_dates.specs.Shown.{tws_of}
use Rattle.annotation_lines.proofs.Showing.{tws_bytes}
use Rattle.annotation_lines.proofs.lines.push_date.Goals as goal

pub returns-in_ok-tws-in-Some : goal.returns-in_ok-tws-in-Some
returns-in_ok-tws-in-Some c =
    let valid : IsMailDate c.in-Some.date = search rules in
    let same : c.as_bytes.result.now ≡ tws_of c.in-Some.date =
    c.as_bytes.ensures.value ∙ c.as_str-in-Some.ensures.bytes ∙ ap encode_utf8_all c.in_ok-tws-in-Some.ensures ∙ tws_bytes c.in-Some.date valid in
    rw c.in-Some.is (rw same at c.push_line.ensures)
