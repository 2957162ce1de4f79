use Rattle.std.proofs.Common.{FitsSigned, w64, ◌∙◌, arith}
use Rattle.std.proofs.lemmas.Bool.{false≢true}
use Rattle.std.proofs.lemmas.Int.{ints, to_z-of_z}
use Rattle.jiff.proofs.SpanFacts.{date_add-days, can_add-days}
use Rattle.mail_dates.proofs.days.date_of.Goals as goal

pub unreachable-requires : goal.unreachable-requires
unreachable-requires c =
    let fits : FitsSigned w64 c.args.day = c.ranges.day in
    let only = simp to_z-of_z at c.days.ensures in
    false≢true (c.in_default.ensures.succeeds.1 ((can_add-days c.epoch.result c.args.day c.days.result only).1
    (omega (arith, ints, c.epoch.ensures, c.requires), omega (arith, ints, c.epoch.ensures, c.requires))))

pub returns : goal.returns
returns c =
    let fits : FitsSigned w64 c.args.day = c.ranges.day in
    let only = simp to_z-of_z at c.days.ensures in
    c.in-Ok.ensures.value ∙ date_add-days c.epoch.result c.args.day c.days.result only ∙ omega (arith, ints, c.epoch.ensures)
