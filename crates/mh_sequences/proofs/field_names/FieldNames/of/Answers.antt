use Rattle.std.proofs.Common.{ap, sym, ◌∙◌}
use Rattle.std.specs.Prelude.{◌||◌}
use Rattle.mail_headers.specs.Fields.{fields_of}
use Rattle.mail_headers.specs.Walk.{fields_left}
use Rattle.mh_sequences.specs.FieldNames.{is_name_in}
use Rattle.mh_sequences.specs.Reading.{has_field}
use Rattle.mh_sequences.proofs.FieldNaming.{name_more}
use Rattle.mh_sequences.proofs.field_names.FieldNames.of.Goals as goal

pub loop-field-preserved : goal.loop-field-preserved
loop-field-preserved c = (
  tt,
  tt,
  λ name. name_more name c.loop-field.names.keys c.insert.new.self.keys c.in_ok-to_vec.field-0 (record { name = c.in-Some.field.name.now; value = c.in-Some.field.value.now }) (fields_left c.next.new.self) (fields_of c.args.text.now) c.in_ok-insert.ensures.keys (c.in_ok-to_vec.ensures.items_if_clones_equal (λ x y e. e))
      (ap (λ l. is_name_in (record { names = c.loop-field.names }) name || has_field l name) (sym c.in-Some.ensures.steps) ∙ c.loop-field.invariant.2 name),
)
