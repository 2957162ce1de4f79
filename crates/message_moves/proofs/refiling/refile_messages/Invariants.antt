use Rattle.std.proofs.Common.{◌≡◌, List, Result, drop}
use Rattle.file_plans.specs.Follows.{Follows, State, by_hand}
use Rattle.step_plans.specs.CommandFaults.{command_cause}
use Rattle.step_plans.specs.declared.command_fault.CommandFault.{CommandFault}
use Rattle.message_moves.specs.Refiling.{messages_refiled}
use Rattle.message_moves.specs.declared.destination.Destination.{Destination}
use Rattle.message_moves.proofs.refiling.refile_messages.Given as goal

abbrev pub invariant-loop-number : goal.invariant-loop-number
invariant-loop-number g l =
    (l.hand.run ≡ l.fn.hand.run) × (l.hand.mail ≡ l.fn.hand.mail)
    × ((z : State) (r : Result (List Destination) CommandFault) → Follows l.fn.hand.run command_cause (messages_refiled l.fn.hand.run l.origin.folder.now l.origin.place.now (drop l.number-index l.numbers) l.later) (by_hand l.hand.kept (g.F.Files.state l.files)) z r
    → Follows l.fn.hand.run command_cause (messages_refiled l.fn.hand.run l.origin.folder.now l.origin.place.now l.fn.numbers l.fn.destinations) (by_hand l.fn.hand.kept (g.F.Files.state l.fn.files)) z r)
