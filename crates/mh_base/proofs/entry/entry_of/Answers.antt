use Rattle.mh_base.proofs.EntryKinds.{kind_is}
use Rattle.mh_base.proofs.entry.entry_of.Goals as goal

pub returns-clause-kind : goal.returns-clause-kind
returns-clause-kind c = rw c.read_kind.ensures (kind_is c.args.bytes.now)
