use Rattle.std.proofs.Common.{take}
use Rattle.folder_room.proofs.Locking.{Keeps, no_lock_by}
use Rattle.folder_room.proofs.locks.without_run.Given as goal

abbrev pub invariant-loop-held : goal.invariant-loop-held
invariant-loop-held l = Keeps (no_lock_by l.run) l.kept (take l.held-index l.locks)
