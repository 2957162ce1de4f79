use Rattle.std.proofs.Common.{◌≡◌, sym, ◌∙◌}
use Rattle.std.specs.Prelude.{decimal}
use Rattle.std.proofs.lemmas.Slice.Eq.{bytes_eq-Decides}
use Rattle.mh_base.proofs.Decimals.{no_text, no_parse, other_text, same_text}
use Rattle.mh_base.proofs.decimal.read_decimal.Goals as goal

pub returns-in_default : goal.returns-in_default
returns-in_default c = sym (no_text c.args.bytes.now (c.in_default.ensures.cases.0))

pub returns-in_default-parse : goal.returns-in_default-parse
returns-in_default-parse c = sym (no_parse c.args.bytes.now c.in_default-parse.field-0 (rw c.in-Ok.ensures.cases.0 at c.in_default-parse.ensures.value.0))

pub returns-then-eq : goal.returns-then-eq
returns-then-eq c =
    let text : decimal c.in-Ok-parse.value ≡ c.as_bytes.result.now = sym (c.as_bytes.ensures.value ∙ c.format.ensures.text) in
    same_text c.args.bytes.now c.in-Ok-parse.value (let p = c.in-Ok-parse.ensures.value.0 in rw p.1 p.0.1) (text ∙ (bytes_eq-Decides c.as_bytes.result.now c.args.bytes.now).0 (sym c.eq.ensures ∙ c.if-eq.true))

pub returns-else-eq : goal.returns-else-eq
returns-else-eq c =
    let text : decimal c.in-Ok-parse.value ≡ c.as_bytes.result.now = sym (c.as_bytes.ensures.value ∙ c.format.ensures.text) in
    other_text c.args.bytes.now c.in-Ok-parse.value c.parse.result c.as_bytes.result.now c.eq.result text c.eq.ensures c.in-Ok-parse.is (rw c.in-Ok.ensures.cases.0 at c.parse.ensures.value.0) c.if-eq.false
