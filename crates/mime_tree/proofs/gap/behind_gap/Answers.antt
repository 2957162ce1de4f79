use Rattle.std.proofs.Common.{sym, ◌∙◌, refl}
use Rattle.mime_tree.proofs.Gapping.{gap_goes, gap_stops, gap_ends, depth_goes, between_end, inside_end}
use Rattle.mime_tree.proofs.gap.behind_gap.Goals as goal

pub returns-in-None-clause-value : goal.returns-in-None-clause-value
returns-in-None-clause-value c =
    let at_here = gap_stops c.args.text.now c.loop-i.place c.loop-i.i _ _ c.loop-i-test.true refl (sym c.behind.ensures ∙ c.in-None.is) c.loop-i.invariant.0 in
    rw c.split_at.ensures.back at_here

pub loop-i-preserved : goal.loop-i-preserved
loop-i-preserved c =
    let on = sym c.behind.ensures ∙ c.in-Some.is in
    (gap_goes c.args.text.now c.loop-i.place c.in-Some.next c.loop-i.i _ _ c.loop-i-test.true refl on c.loop-i.invariant.0, depth_goes c.loop-i.place c.in-Some.next _ c.loop-i.i on c.loop-i.invariant.1)

pub returns-then-is_between-clause-value : goal.returns-then-is_between-clause-value
returns-then-is_between-clause-value c =
    gap_ends c.args.text.now c.loop-i.place c.loop-i.i _ c.loop-i-test.false c.loop-i.invariant.0 ∙ between_end c.loop-i.place (sym c.is_between.ensures ∙ c.if-is_between.true)

pub returns-else-is_between-clause-value : goal.returns-else-is_between-clause-value
returns-else-is_between-clause-value c =
    gap_ends c.args.text.now c.loop-i.place c.loop-i.i _ c.loop-i-test.false c.loop-i.invariant.0 ∙ inside_end c.loop-i.place (sym c.is_between.ensures ∙ c.if-is_between.false)
