use Rattle.std.proofs.Common.{◌-◌, refl, arith, get_or}
use Rattle.mh_drafts.proofs.Signing.{none_passed, passed_more}
use Rattle.mh_drafts.proofs.sign.first_wrong.Goals as goal

pub loop-place-init : goal.loop-place-init
loop-place-init c = none_passed c.args.signs.now _ refl

pub loop-place-preserved : goal.loop-place-preserved
loop-place-preserved c =
    passed_more c.args.signs.now c.loop-place.place (c.loop-place.place - 1) c.loop-place.ends c.ends-ends.result c.loop-place.bare c.is_bare-bare.result c.is_wrong.result c.loop-place.first c.earlier-first.result
    (get_or c.args.signs.now (c.loop-place.place - 1) _) _ (omega (arith, c.loop-place-test.true)) refl c.is_wrong.ensures c.earlier-first.ensures c.ends-ends.ensures.value c.ends-ends.ensures.inside c.is_bare-bare.ensures c.loop-place.invariant
