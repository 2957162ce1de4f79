use Rattle.command_words.proofs.FieldNames.{decides}
use Rattle.command_words.proofs.field_name.is_field_name.Goals as goal

pub returns : goal.returns
returns c = rw (c.as_bytes.ensures.value, c.as_str.ensures.bytes) at (decides c.is_field_name.result c.as_bytes.result.now c.is_field_name.ensures)
