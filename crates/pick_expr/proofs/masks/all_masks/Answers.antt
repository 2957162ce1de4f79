use Rattle.std.proofs.Common.{◌∷◌, [], List, length, sym, ap, ◌∙◌, arith, subst}
use Rattle.std.proofs.lemmas.List.{length-append}
use Rattle.pick_expr.specs.declared.places.Places.{Places}
use Rattle.pick_expr.specs.Masks.{AreMasks}
use Rattle.pick_expr.proofs.MaskSteps.{masks_more, no_masks}
use Rattle.pick_expr.proofs.masks.all_masks.Goals as goal

pub loop-byte-init : goal.loop-byte-init
loop-byte-init c = (
  subst (λ (z : List Places). AreMasks c.args.elements.now z) (sym c.new-masks.ensures.items) (no_masks c.args.elements.now),
  ap length c.new-masks.ensures.items,
)

pub loop-byte-preserved : goal.loop-byte-preserved
loop-byte-preserved c = (
  subst (λ (z : List Places). AreMasks c.args.elements.now z) (sym c.in_ok-push-in-Some.ensures.items)
      (masks_more c.args.elements.now c.loop-byte.masks.items c.in-Some.mask c.loop-byte.byte c.loop-byte.invariant.0 c.loop-byte.invariant.1 c.in-Some.ensures),
  ap length c.in_ok-push-in-Some.ensures.items ∙ length-append c.loop-byte.masks.items (c.in-Some.mask ∷ []) ∙ omega (arith, c.loop-byte.invariant.1),
)
