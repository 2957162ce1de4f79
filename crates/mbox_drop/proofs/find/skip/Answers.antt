use Rattle.std.proofs.Common.{◌≡◌, ◌+◌, drop, length, sym, ap, ◌∙◌, arith}
use Rattle.mbox_drop.specs.Places.{place_after}
use Rattle.mbox_drop.specs.Finding.{skipped}
use Rattle.mbox_drop.proofs.Finds.{skipped-inside, skipped-more, skipped-all}
use Rattle.mbox_drop.proofs.find.skip.Goals as goal

pub returns-then-is_inside-clause-value : goal.returns-then-is_inside-clause-value
returns-then-is_inside-clause-value c = sym (skipped-inside c.loop-i.place c.loop-i.i c.args.bytes.now c.loop-i-test.true (sym c.if-is_inside.ensures)) ∙ c.loop-i.invariant

pub loop-i-preserved : goal.loop-i-preserved
loop-i-preserved c =
    ap (λ p. skipped p (c.loop-i.i + 1) (drop (c.loop-i.i + 1) c.args.bytes.now)) (c.place-place.ensures ∙ ap (λ t. place_after t) c.turn.ensures)
    ∙ sym (skipped-more c.loop-i.place c.loop-i.i c.args.bytes.now c.loop-i-test.true (sym c.if-is_inside.ensures)) ∙ c.loop-i.invariant

pub returns-clause-value : goal.returns-clause-value
returns-clause-value c =
    let e : c.loop-i.i ≡ length c.args.bytes.now = omega arith in
    ap (λ n. record { place = c.loop-i.place; next = n }) (sym e)
    ∙ sym (skipped-all c.loop-i.place c.loop-i.i c.args.bytes.now c.loop-i-test.false) ∙ c.loop-i.invariant
