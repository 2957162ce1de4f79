use Rattle.std.proofs.Common.{sym, ◌∙◌, subst}
use Rattle.std.specs.Prelude.{IsTrue}
use Rattle.mh_sequences.specs.Names.{is_seq_name}
use Rattle.mh_sequences.proofs.AsciiNames.{plain}
use Rattle.mh_sequences.proofs.seq_name.SeqName.bytes.Goals as goal

pub returns-clause-value : goal.returns-clause-value
returns-clause-value c = c.as_bytes.ensures.value ∙ c.as_str.ensures.bytes ∙ plain c.self.inside.0 c.self.invariant ∙ c.self.view_is

pub returns-clause-valid : goal.returns-clause-valid
returns-clause-valid c = subst (λ n. IsTrue (is_seq_name n)) (sym (c.as_bytes.ensures.value ∙ c.as_str.ensures.bytes ∙ plain c.self.inside.0 c.self.invariant)) c.self.invariant
