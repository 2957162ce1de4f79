use Rattle.std.proofs.Common.{rules, arith}
use Rattle.folder_room.proofs.Locking.{no_lock_of, keeps_on, keeps_off, lock_passes, lock_falls}
use Rattle.folder_room.proofs.locks.without_lock.Goals as goal

pub loop-held-preserved-then-is_lock : goal.loop-held-preserved-then-is_lock
loop-held-preserved-then-is_lock c =
    keeps_off (no_lock_of c.args.place.now c.args.run) c.loop-held.kept c.args.locks.now c.loop-held.held-index c.held-item.result (omega arith) (search rules) c.loop-held.invariant
    (lock_falls c.args.place.now c.args.run c.held-item.result (search rules) (search rules))

pub loop-held-preserved : goal.loop-held-preserved
loop-held-preserved c =
    keeps_on (no_lock_of c.args.place.now c.args.run) c.loop-held.kept c.push.new.self c.args.locks.now c.loop-held.held-index c.held-item.result c.in_ok-duplicate.field-0 (omega arith) (search rules) (search rules) (search rules) c.loop-held.invariant
    (lock_passes c.args.place.now c.args.run c.held-item.result (λ a b. search rules))
