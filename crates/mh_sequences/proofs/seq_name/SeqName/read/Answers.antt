use Rattle.std.proofs.Common.{ap, sym, ◌∙◌}
use Rattle.mh_sequences.specs.Names.{is_seq_name}
use Rattle.mh_sequences.proofs.AsciiNames.{judged}
use Rattle.mh_sequences.proofs.seq_name.SeqName.read.Goals as goal

pub returns-then-not-is_name-clause-refused : goal.returns-then-not-is_name-clause-refused
returns-then-not-is_name-clause-refused c x =
    sym (judged c.as_str.result.now c.args.text.now c.as_str.ensures.chars c.as_str.ensures.bytes) ∙ ap is_seq_name (sym c.as_bytes.ensures.value) ∙ sym c.is_name.ensures ∙ c.if-not-is_name.true

pub invariant_of-result : goal.invariant_of-result
invariant_of-result c =
    ap is_seq_name c.in-Ok.ensures
    ∙ sym (judged c.as_str.result.now c.args.text.now c.as_str.ensures.chars c.as_str.ensures.bytes) ∙ ap is_seq_name (sym c.as_bytes.ensures.value) ∙ sym c.is_name.ensures ∙ c.if-not-is_name.false

pub returns-in-Ok-clause-value : goal.returns-in-Ok-clause-value
returns-in-Ok-clause-value c = (c.in-Ok.ensures, invariant_of-result c)
