use Rattle.std.proofs.Common.{ℕ, Result, drop}
use Rattle.file_plans.specs.Follows.{Follows, State}
use Rattle.step_plans.specs.CommandFaults.{command_cause}
use Rattle.step_plans.specs.declared.command_fault.CommandFault.{CommandFault}
use Rattle.refile_plans.specs.Refile.{room_in}
use Rattle.refile_command.proofs.rooms.ask_room.Given as goal

abbrev pub invariant-loop-one : goal.invariant-loop-one
invariant-loop-one l = (run : ℕ) (x : State) (r : Result Unit CommandFault) → Follows run command_cause (room_in (drop l.one-index l.to) l.count) x x r → Follows run command_cause (room_in l.to l.count) x x r
