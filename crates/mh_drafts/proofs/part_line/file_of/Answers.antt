use Rattle.std.proofs.Common.{sym, ◌∙◌}
use Rattle.mh_drafts.proofs.Filing.{no_file, some_file}
use Rattle.mh_drafts.proofs.part_line.file_of.Goals as goal

pub returns-then-is_wrong : goal.returns-then-is_wrong
returns-then-is_wrong c = no_file _ _ (sym c.is_wrong.ensures ∙ c.if-is_wrong.true)

pub returns : goal.returns
returns c = some_file _ _ (sym c.is_wrong.ensures ∙ c.if-is_wrong.false)
