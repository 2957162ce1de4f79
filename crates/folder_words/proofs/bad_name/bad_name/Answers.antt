use Rattle.std.proofs.Common.{◌∙◌, sym}
use Rattle.folder_words.specs.BadNames.{bad_name_in}
use Rattle.command_words.proofs.Places.{met, none_met, passed}
use Rattle.folder_words.proofs.bad_name.bad_name.Goals as goal

pub returns-in-Some : goal.returns-in-Some
returns-in-Some c = rw c.as_slice-item-items.ensures at (met bad_name_in _ _ _ _ _ c.loop-item-test.true c.item-item.is (sym c.bad_place.ensures ∙ c.in-Some.is) c.loop-item.invariant)

pub loop-item-preserved : goal.loop-item-preserved
loop-item-preserved c = passed bad_name_in _ _ _ _ c.loop-item-test.true c.item-item.is (sym c.bad_place.ensures ∙ c.in_default.is) c.loop-item.invariant

pub returns : goal.returns
returns c = rw c.as_slice-item-items.ensures at (none_met bad_name_in _ _ _ c.loop-item-test.false c.loop-item.invariant)
