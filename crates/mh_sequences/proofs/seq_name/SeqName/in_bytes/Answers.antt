use Rattle.std.proofs.Common.{◌≡◌, ap, sym, ◌∙◌, true}
use Rattle.std.specs.Str.{chars}
use Rattle.std.proofs.lemmas.Bool.{false_from_ne_true}
use Rattle.mh_sequences.specs.Names.{is_seq_name}
use Rattle.mh_sequences.proofs.AsciiNames.{plain_chars, is_text}
use Rattle.mh_sequences.proofs.seq_name.SeqName.in_bytes.Goals as goal

pub returns-in_default : goal.returns-in_default
returns-in_default c = false_from_ne_true (is_seq_name c.args.bytes.now) (λ h. c.in_default.ensures.cases.0 (is_text c.args.bytes.now h))

named : (c : goal.In_ok-from_str) → is_seq_name c.args.bytes.now ≡ true
named c = sym c.is_name.ensures ∙ c.if-not-is_name.false

same : (c : goal.In_ok-from_str) → c.in_ok-from_str.field-0 ≡ c.args.bytes.now
same c = c.in_ok-from_str.ensures ∙ ap chars c.in-Ok.ensures.cases.0 ∙ plain_chars c.args.bytes.now (named c)

pub invariant_of-result : goal.invariant_of-result
invariant_of-result c = ap is_seq_name (same c) ∙ named c

pub returns : goal.returns
returns c = (same c, named c)
