use Rattle.std.proofs.Common.{List, [], Result, drop}
use Rattle.file_plans.specs.Follows.{State, Follows, by_hand}
use Rattle.step_plans.specs.CommandFaults.{command_cause}
use Rattle.step_plans.specs.declared.command_fault.CommandFault.{CommandFault}
use Rattle.mhbuild_compose.specs.declared.given.Given.{Given}
use Rattle.draft_contents.specs.Wants.{all_given}
use Rattle.draft_contents.proofs.wants.give_all.Given as goal

abbrev pub invariant-loop-want : goal.invariant-loop-want
invariant-loop-want g l = (z : State) (r : Result (List Given) CommandFault) →
    Follows l.hand.run command_cause (all_given l.hand.mail l.forwarding l.givens (drop l.want-index l.wants)) (by_hand l.hand.kept (g.F.Files.state l.files)) z r →
    Follows l.hand.run command_cause (all_given l.hand.mail l.forwarding [] l.wants) (by_hand l.hand.kept (g.F.Files.state l.fn.files)) z r
