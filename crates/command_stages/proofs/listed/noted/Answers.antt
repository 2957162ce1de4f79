use Rattle.command_stages.proofs.Listing.{one_noted, all_noted}
use Rattle.command_stages.proofs.listed.noted.Goals as goal

pub loop-name-preserved : goal.loop-name-preserved
loop-name-preserved c = one_noted _ _ _ _ _ c.loop-name-test.true c.name-item.is c.in_ok-note.ensures c.loop-name.invariant

pub returns : goal.returns
returns c = all_noted _ _ _ c.loop-name-test.false c.loop-name.invariant
