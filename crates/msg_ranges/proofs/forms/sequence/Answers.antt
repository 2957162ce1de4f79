use Rattle.std.proofs.Common.{◌≡◌, true, Err, ap, sym, ◌∙◌}
use Rattle.std.specs.Str.{chars}
use Rattle.std.proofs.lemmas.Bool.{false_from_ne_true}
use Rattle.msg_ranges.proofs.Digits.{read_name}
use Rattle.mh_sequences.specs.Names.{is_seq_name}
use Rattle.mh_sequences.proofs.AsciiNames.{is_text, plain_chars}
use Rattle.msg_ranges.proofs.forms.sequence.Goals as goal

pub returns-in_default : goal.returns-in_default
returns-in_default c = false_from_ne_true (is_seq_name c.args.bytes.now) (λ h. c.in_default.ensures.cases.0 (is_text c.args.bytes.now h))

pub returns-in-Ok-read : goal.returns-in-Ok-read
returns-in-Ok-read c =
    let is : is_seq_name c.args.bytes.now ≡ true = read_name c.args.bytes.now c.in-Ok.text.now c.in_ok-text.text c.in-Ok.ensures.cases.0 c.in-Ok.ensures.cases.1 c.in_ok-text.ensures ∙ ap is_seq_name (sym c.in-Ok-read.ensures.value.0) ∙ c.in-Ok-read.ensures.value.1 in
    (c.in-Ok-read.ensures.value.0 ∙ c.in_ok-text.ensures ∙ ap chars c.in-Ok.ensures.cases.0 ∙ plain_chars c.args.bytes.now is, is)

pub returns-in-Err-BadName : goal.returns-in-Err-BadName
returns-in-Err-BadName c =
    read_name c.args.bytes.now c.in-Ok.text.now c.in_ok-text.text c.in-Ok.ensures.cases.0 c.in-Ok.ensures.cases.1 c.in_ok-text.ensures ∙ c.in-Err-BadName.ensures.refused (λ i. Err (c.in-Err-BadName.field-0-is i))
