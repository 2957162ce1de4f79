use Rattle.std.proofs.Common.{List, [], ℕ, Result, drop}
use Rattle.file_plans.specs.Plan.{Hand}
use Rattle.file_plans.specs.Follows.{State, Follows, by_hand}
use Rattle.step_plans.specs.CommandFaults.{command_cause}
use Rattle.step_plans.specs.declared.command_fault.CommandFault.{CommandFault}
use Rattle.draft_contents.specs.Messages.{messages_read}
use Rattle.draft_contents.proofs.messages.read_messages.Given as goal

abbrev pub invariant-loop-number : goal.invariant-loop-number
invariant-loop-number g l = (h : Hand) (z : State) (r : Result (List (List ℕ)) CommandFault) →
    Follows l.run command_cause (messages_read l.place l.messages (drop l.number-index l.numbers)) (by_hand h (g.F.Files.state l.files)) z r →
    Follows l.run command_cause (messages_read l.place [] l.numbers) (by_hand h (g.F.Files.state l.fn.files)) z r
