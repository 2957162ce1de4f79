use Rattle.std.proofs.Common.{refl, sym, ◌∙◌}
use Rattle.msg_ranges.proofs.Answering.{some_of}
use Rattle.msg_ranges.proofs.ranges.some_or.Goals as goal

pub returns-else-is_empty : goal.returns-else-is_empty
returns-else-is_empty c = (refl, some_of c.args.fault c.args.set.runs c.is_empty.ensures.valid (sym c.is_empty.ensures.value ∙ c.if-is_empty.false))
