use Rattle.std.proofs.Common.{◌∙◌, sym}
use Rattle.look_words.specs.LookWords.{wrong_width_in}
use Rattle.command_words.proofs.Places.{met, none_met, passed}
use Rattle.look_words.proofs.look.wrong_width.Goals as goal

pub returns-in-Some : goal.returns-in-Some
returns-in-Some c = rw c.as_slice-item-items.ensures at (met wrong_width_in _ _ _ _ _ c.loop-item-test.true c.item-item.is (sym c.wrong_place.ensures ∙ c.in-Some.is) c.loop-item.invariant)

pub loop-item-preserved : goal.loop-item-preserved
loop-item-preserved c = passed wrong_width_in _ _ _ _ c.loop-item-test.true c.item-item.is (sym c.wrong_place.ensures ∙ c.in_default.is) c.loop-item.invariant

pub returns : goal.returns
returns c = rw c.as_slice-item-items.ensures at (none_met wrong_width_in _ _ _ c.loop-item-test.false c.loop-item.invariant)
