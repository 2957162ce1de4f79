use Rattle.std.proofs.Common.{◌∙◌, sym}
use Rattle.part_rows.specs.PartViews.{view_of}
use Rattle.part_rows.proofs.Choosing.{listed_where_named}
use Rattle.part_rows.proofs.choices.is_listed.Goals as goal

pub returns-else-is_empty : goal.returns-else-is_empty
returns-else-is_empty c = λ bytes. listed_where_named c.args.wanted.now (view_of bytes c.args.part.now) c.is_named.result (sym c.is_empty.ensures ∙ c.if-is_empty.false) (c.is_named.ensures bytes)
