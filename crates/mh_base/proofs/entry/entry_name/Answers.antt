use Rattle.std.proofs.Common.{rules}
use Rattle.mh_base.proofs.EntryKinds.{kind_of_ranged}
use Rattle.mh_base.proofs.EntryNames.{named, is_made}
use Rattle.mh_base.proofs.entry.entry_name.Goals as goal

pub unwrap-requires : goal.unwrap-requires
unwrap-requires c = is_made c.in_ok-text.text c.new.result c.new.ensures (rw c.in_ok-text.ensures.text (named c.args.entry.now c.in_ok-text.ensures.ranges c.requires))

pub returns-clause-kind : goal.returns-clause-kind
returns-clause-kind c = kind_of_ranged c.args.entry.now _ c.requires c.in_ok-text.ensures.ranges (search rules)
