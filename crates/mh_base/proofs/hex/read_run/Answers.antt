use Rattle.std.proofs.Common.{sym, ◌∙◌}
use Rattle.std.proofs.lemmas.Slice.Eq.{bytes_eq-Decides}
use Rattle.mh_base.proofs.RunDigits.{no_run_text, no_run_parse, other_run, same_run}
use Rattle.mh_base.proofs.hex.read_run.Goals as goal

pub returns-in_default : goal.returns-in_default
returns-in_default c = sym (no_run_text c.args.bytes.now (c.in_default.ensures.cases.0))

pub returns-in_default-from_str_radix : goal.returns-in_default-from_str_radix
returns-in_default-from_str_radix c = sym (no_run_parse c.args.bytes.now c.in_default-from_str_radix.field-0 (rw c.in-Ok.ensures.cases.0 at c.in_default-from_str_radix.ensures.value))

pub returns-then-eq : goal.returns-then-eq
returns-then-eq c =
    same_run c.args.bytes.now c.as_slice.result.now c.in-Ok-from_str_radix.run' (let p = c.in-Ok-from_str_radix.ensures.value in rw p.1 p.0.1) (c.as_slice.ensures ∙ c.run_digits-digits.ensures)
    ((bytes_eq-Decides c.as_slice.result.now c.args.bytes.now).0 (sym c.eq.ensures ∙ c.if-eq.true))

pub returns-else-eq : goal.returns-else-eq
returns-else-eq c =
    other_run c.args.bytes.now c.in-Ok-from_str_radix.run' c.from_str_radix.result c.as_slice.result.now c.eq.result (c.as_slice.ensures ∙ c.run_digits-digits.ensures) c.eq.ensures
    c.in-Ok-from_str_radix.is (rw c.in-Ok.ensures.cases.0 at c.from_str_radix.ensures.value) c.if-eq.false
