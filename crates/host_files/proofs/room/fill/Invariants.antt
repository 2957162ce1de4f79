use Rattle.std.proofs.Common.{◌≤◌, length}
use Rattle.host_files.proofs.room.fill.Given as goal

abbrev pub invariant-loop : goal.invariant-loop
invariant-loop l = l.filled ≤ length l.room
