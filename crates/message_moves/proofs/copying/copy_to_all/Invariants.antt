use Rattle.std.proofs.Common.{◌≡◌, List, Result, [], drop}
use Rattle.file_plans.specs.Follows.{Follows, State, by_hand}
use Rattle.step_plans.specs.CommandFaults.{command_cause}
use Rattle.step_plans.specs.declared.command_fault.CommandFault.{CommandFault}
use Rattle.message_moves.specs.Copying.{copied_to_all}
use Rattle.message_moves.specs.declared.destination.Destination.{Destination}
use Rattle.message_moves.proofs.copying.copy_to_all.Given as goal

abbrev pub invariant-loop-destination : goal.invariant-loop-destination
invariant-loop-destination g l =
    (l.hand.run ≡ l.fn.hand.run) × (l.hand.mail ≡ l.fn.hand.mail) × (l.bytes ≡ l.fn.bytes)
    × ((z : State) (r : Result (List Destination) CommandFault) → Follows l.fn.hand.run command_cause (copied_to_all l.fn.hand.run l.fn.bytes (drop l.destination-index l.destinations) l.later) (by_hand l.hand.kept (g.F.Files.state l.files)) z r
    → Follows l.fn.hand.run command_cause (copied_to_all l.fn.hand.run l.fn.bytes l.fn.destinations []) (by_hand l.fn.hand.kept (g.F.Files.state l.fn.files)) z r)
