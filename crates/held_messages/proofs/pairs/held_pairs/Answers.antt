use Rattle.std.proofs.Common.{sym, subst}
use Rattle.std.specs.List.Sorted.{IsPermutation}
use Rattle.held_messages.proofs.Inserting.{none_put, one_put, all_pairs_put}
use Rattle.held_messages.proofs.pairs.held_pairs.Goals as goal

pub loop-pair-init : goal.loop-pair-init
loop-pair-init c =
    none_put c.args.run c.args.names.now c.in_ok-found.found.items c.as_slice-pair-items.result.now c.new-pairs.result.items
    (subst (λ l. IsPermutation c.in_ok-found.found.items l) (sym c.as_slice-pair-items.ensures.value) c.sort.ensures) c.in_ok-found.ensures c.new-pairs.ensures.items

pub insert-requires : goal.insert-requires
insert-requires c = c.loop-pair.invariant.in_order

pub loop-pair-preserved : goal.loop-pair-preserved
loop-pair-preserved c = one_put _ _ _ _ c.pair-item.result _ _ c.loop-pair-test.true c.pair-item.is c.in_ok-insert.ensures c.loop-pair.invariant

pub returns : goal.returns
returns c = all_pairs_put _ _ _ _ _ c.loop-pair-test.false c.loop-pair.invariant
