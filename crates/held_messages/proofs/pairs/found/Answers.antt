use Rattle.std.proofs.Common.{ap, ◌∙◌, ◌++◌}
use Rattle.held_messages.specs.HeldPairs.{alone}
use Rattle.held_messages.proofs.Inserting.{none_found, one_found, all_found}
use Rattle.held_messages.proofs.pairs.found.Goals as goal

pub loop-name-init : goal.loop-name-init
loop-name-init c = none_found _ _ _ c.new-pairs.ensures.items

pub loop-name-preserved : goal.loop-name-preserved
loop-name-preserved c =
    one_found _ _ _ c.name-item.result _ _ c.loop-name-test.true c.name-item.is (c.in_ok-push.ensures ∙ ap (λ o. c.loop-name.pairs.items ++ alone o) c.pair_of.ensures) c.loop-name.invariant

pub returns : goal.returns
returns c = all_found _ _ _ _ c.loop-name-test.false c.loop-name.invariant
