use Rattle.std.proofs.Common.{Some, None, ap, sym, ◌∙◌}
use Rattle.std.specs.Str.{encode_utf8_all}
use Rattle.msg_ranges.specs.Forms.{plain_form, form_with_sequence}
use Rattle.msg_ranges.proofs.Forming.{plain_reads, with_sequence_reads, one_reading, no_reading, found_first, found_second}
use Rattle.msg_ranges.proofs.spec.Spec.read.Goals as goal

pub returns-in-Some-clause-reading : goal.returns-in-Some-clause-reading
returns-in-Some-clause-reading c =
    plain_reads c.args.negation.now (encode_utf8_all c.args.text.now) c.in-Some.spec
    (ap plain_form (sym (c.as_bytes-word.ensures.value ∙ c.as_str.ensures.bytes)) ∙ sym c.read_plain.ensures ∙ c.in-Some.is)

pub returns-in-Some-clause-alone : goal.returns-in-Some-clause-alone
returns-in-Some-clause-alone c other r =
    one_reading c.args.negation.now (encode_utf8_all c.args.text.now) c.in-Some.spec other
    (found_first c.args.negation.now (encode_utf8_all c.args.text.now) c.in-Some.spec
    (ap plain_form (sym (c.as_bytes-word.ensures.value ∙ c.as_str.ensures.bytes)) ∙ sym c.read_plain.ensures ∙ c.in-Some.is)) r

pub returns-in-Some-2-clause-reading : goal.returns-in-Some-2-clause-reading
returns-in-Some-2-clause-reading c =
    let same = sym (c.as_bytes-word.ensures.value ∙ c.as_str.ensures.bytes) in
    with_sequence_reads c.args.negation.now (encode_utf8_all c.args.text.now) c.in-Some-2.spec
    (ap plain_form same ∙ sym c.read_plain.ensures ∙ c.in_default.is)
    (ap (form_with_sequence c.args.negation.now) same ∙ sym c.in_ok-spec.ensures ∙ c.in-Some-2.is)

pub returns-in-Some-2-clause-alone : goal.returns-in-Some-2-clause-alone
returns-in-Some-2-clause-alone c other r =
    let same = sym (c.as_bytes-word.ensures.value ∙ c.as_str.ensures.bytes) in
    one_reading c.args.negation.now (encode_utf8_all c.args.text.now) c.in-Some-2.spec other
    (found_second c.args.negation.now (encode_utf8_all c.args.text.now) (Some c.in-Some-2.spec)
    (ap plain_form same ∙ sym c.read_plain.ensures ∙ c.in_default.is)
    (ap (form_with_sequence c.args.negation.now) same ∙ sym c.in_ok-spec.ensures ∙ c.in-Some-2.is)) r

pub returns-in-None-clause-refused : goal.returns-in-None-clause-refused
returns-in-None-clause-refused c _ =
    let same = sym (c.as_bytes-word.ensures.value ∙ c.as_str.ensures.bytes) in
    no_reading c.args.negation.now (encode_utf8_all c.args.text.now)
    (found_second c.args.negation.now (encode_utf8_all c.args.text.now) None
    (ap plain_form same ∙ sym c.read_plain.ensures ∙ c.in_default.is)
    (ap (form_with_sequence c.args.negation.now) same ∙ sym c.in_ok-spec.ensures ∙ c.in-None.is))
