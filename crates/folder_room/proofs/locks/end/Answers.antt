use Rattle.std.proofs.Common.{rules}
use Rattle.folder_room.proofs.Locking.{end_made}
use Rattle.folder_room.proofs.locks.end.Goals as goal

pub returns-clause-ok : goal.returns-clause-ok
returns-clause-ok c = end_made c.args.world.now c.args.run c.in_ok-kept.kept _ (search rules) (search rules)
