use Rattle.std.proofs.Common.{take}
use Rattle.folder_room.proofs.Locking.{Keeps, no_lock_of}
use Rattle.folder_room.proofs.locks.without_lock.Given as goal

abbrev pub invariant-loop-held : goal.invariant-loop-held
invariant-loop-held l = Keeps (no_lock_of l.place l.run) l.kept (take l.held-index l.locks)
