use Rattle.std.proofs.Common.{◌∙◌}
use Rattle.format_run.proofs.Searching.{found}
use Rattle.format_run.proofs.texts.contains.Goals as goal

pub returns : goal.returns
returns c = c.is_some.ensures ∙ found c.args.piece.now c.args.text.now c.find.result c.find.ensures
