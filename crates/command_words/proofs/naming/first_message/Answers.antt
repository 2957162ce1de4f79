use Rattle.std.proofs.Common.{◌∙◌, sym}
use Rattle.command_words.specs.MessagePlaces.{place_in}
use Rattle.command_words.proofs.Places.{met, none_met, passed}
use Rattle.command_words.proofs.naming.first_message.Goals as goal

pub returns-in-Some : goal.returns-in-Some
returns-in-Some c = rw c.as_slice-item-items.ensures at (met place_in _ _ _ _ _ c.loop-item-test.true c.item-item.is (sym c.message_place.ensures ∙ c.in-Some.is) c.loop-item.invariant)

pub loop-item-preserved : goal.loop-item-preserved
loop-item-preserved c = passed place_in _ _ _ _ c.loop-item-test.true c.item-item.is (sym c.message_place.ensures ∙ c.in_default.is) c.loop-item.invariant

pub returns : goal.returns
returns c = rw c.as_slice-item-items.ensures at (none_met place_in _ _ _ c.loop-item-test.false c.loop-item.invariant)
