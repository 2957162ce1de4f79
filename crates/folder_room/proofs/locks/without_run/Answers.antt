use Rattle.std.proofs.Common.{rules, arith}
use Rattle.folder_room.proofs.Locking.{no_lock_by, keeps_on, keeps_off, run_passes, run_falls}
use Rattle.folder_room.proofs.locks.without_run.Goals as goal

pub loop-held-preserved-then-held-run : goal.loop-held-preserved-then-held-run
loop-held-preserved-then-held-run c =
    keeps_off (no_lock_by c.args.run) c.loop-held.kept c.args.locks.now c.loop-held.held-index c.held-item.result (omega arith) (search rules) c.loop-held.invariant (run_falls c.args.run c.held-item.result (search rules))

pub loop-held-preserved : goal.loop-held-preserved
loop-held-preserved c =
    keeps_on (no_lock_by c.args.run) c.loop-held.kept c.push.new.self c.args.locks.now c.loop-held.held-index c.held-item.result c.in_ok-duplicate.field-0 (omega arith) (search rules) (search rules) (search rules) c.loop-held.invariant
    (run_passes c.args.run c.held-item.result (λ a. search rules))
