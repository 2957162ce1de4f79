use Rattle.std.proofs.Common.{arith, length, map}
use Rattle.std.specs.Vec.Iter.{into_iter_items}
use Rattle.sortm_plans.proofs.Zipped.{one_less, zip_ended}
use Rattle.sortm_command.proofs.ordering.with_texts.Goals as goal

pub loop-text-preserved : goal.loop-text-preserved
loop-text-preserved c =
    let i = c.loop-text.invariant in
    let keyed = c.loop-text.keyed in (
      tt,
      tt,
      one_less _ _ _ _ _ c.in-Some.ensures.steps.0 c.in-Some.ensures.steps.1 i.2,
      zip_ended (into_iter_items c.loop-text.text-iterator) (into_iter_items c.next.new.self) c.args.numbers.now (map (λ x. (x.0.items, x.1)) keyed.items) _ (length keyed.items) (omega (arith, keyed.ok.0, c.len.ensures, c.in_default.ensures.lookup.3)) i.3,
    )
