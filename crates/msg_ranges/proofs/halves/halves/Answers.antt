use Rattle.std.proofs.Common.{sym, ◌∙◌}
use Rattle.msg_ranges.proofs.Cutting.{cut_some, cut_none, no_length}
use Rattle.msg_ranges.proofs.halves.halves.Goals as goal

pub returns-in-Some : goal.returns-in-Some
returns-in-Some c =
    rw c.split_at.ensures.front (cut_some c.args.mark c.args.text.now c.place.result c.in-Some.field-0-0.now c.in-Some.back.now c.place.ensures.value (sym c.split_at.ensures.back ∙ c.in-Some.ensures.cases.0))

pub returns-in-None : goal.returns-in-None
returns-in-None c = cut_none c.args.mark c.args.text.now c.place.result c.place.ensures.value (sym c.split_at.ensures.back ∙ no_length _ c.in-None.ensures.cases)
