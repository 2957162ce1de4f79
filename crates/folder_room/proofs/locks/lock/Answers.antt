use Rattle.std.proofs.Common.{rules}
use Rattle.std.proofs.lemmas.Result.{on_ok_weaker}
use Rattle.folder_room.proofs.Locking.{lock_made, lock_gone}
use Rattle.folder_room.proofs.locks.lock.Goals as goal

pub returns-then-not-is_there-clause-ok : goal.returns-then-not-is_there-clause-ok
returns-then-not-is_there-clause-ok c = lock_gone c.args.world.now c.args.run c.args.place.now (search rules)

pub returns-clause-ok : goal.returns-clause-ok
returns-clause-ok c =
    on_ok_weaker c.push.result (λ e. lock_made c.args.world.now c.args.run c.args.place.now c.push.new.self c.in_ok-place.place (search rules) (search rules) e) c.push.ensures.ok
