use Rattle.std.proofs.Common.{ap, sym, ◌∙◌}
use Rattle.std.specs.Prelude.{codes}
use Rattle.mail_headers.specs.Fields.{fields_of, first_value, same_name}
use Rattle.sortm_plans.specs.Keys.{key_by, text_by, text_key}
use Rattle.sortm_command.proofs.keys.text_key.Goals as goal

pub returns-in_ok-key-in-Some : goal.returns-in_ok-key-in-Some
unfolding text_key
returns-in_ok-key-in-Some c =
    c.from_vec.ensures ∙ c.in_ok-key-in-Some.ensures ∙ ap (key_by c.is_subject.result) (c.as_slice.ensures ∙ c.in_ok-text-in-Some.ensures)
    ∙ (λ i. text_by (c.is_subject.ensures i) (sym (ap (λ m. first_value c.args.field.now (fields_of m)) (sym c.cut.ensures.bytes) ∙ c.in-Some.ensures) i))

pub returns-in-None : goal.returns-in-None
unfolding text_key
returns-in-None c = c.new.ensures ∙ ap (text_by (same_name c.args.field.now (codes "subject"))) (sym (ap (λ m. first_value c.args.field.now (fields_of m)) (sym c.cut.ensures.bytes) ∙ c.in-None.ensures))
