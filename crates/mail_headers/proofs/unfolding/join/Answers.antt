use Rattle.mail_headers.proofs.Folding.{all_joined}
use Rattle.mail_headers.proofs.unfolding.join.Goals as goal

pub returns : goal.returns
returns c = all_joined _ _ _ c.loop-i-test.false c.loop-i.invariant
