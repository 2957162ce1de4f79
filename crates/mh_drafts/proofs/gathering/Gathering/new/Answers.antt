use Rattle.std.proofs.Common.{refl}
use Rattle.mh_drafts.proofs.Joining.{starts}
use Rattle.mh_drafts.proofs.gathering.Gathering.new.Goals as goal

pub returns-clause-whole : goal.returns-clause-whole
returns-clause-whole c = λ marks. starts _ marks c.new-2.ensures c.new.ensures refl c.new-3.ensures c.new-4.ensures
