use Rattle.std.proofs.Common.{rules}
use Rattle.folder_room.proofs.Locking.{unlock_made}
use Rattle.folder_room.proofs.locks.unlock.Goals as goal

pub returns-clause-ok : goal.returns-clause-ok
returns-clause-ok c = unlock_made c.args.world.now c.args.run c.args.place.now c.in_ok-kept.kept (search rules)
