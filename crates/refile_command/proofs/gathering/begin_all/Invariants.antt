use Rattle.std.proofs.Common.{◌≡◌, Result, drop}
use Rattle.file_plans.specs.Follows.{Follows, State, by_hand}
use Rattle.file_plans.specs.Plan.{bind}
use Rattle.step_plans.specs.CommandFaults.{command_cause}
use Rattle.step_plans.specs.declared.command_fault.CommandFault.{CommandFault}
use Rattle.command_stages.specs.Texts.{Commanded}
use Rattle.refile_plans.specs.Gathering.{Gathered, all_begun}
use Rattle.refile_command.proofs.gathering.begin_all.Given as goal

abbrev pub invariant-loop-name : goal.invariant-loop-name
invariant-loop-name g l =
    (l.hand.run ≡ l.fn.hand.run) × (l.hand.mail ≡ l.fn.hand.mail)
    × ((later : Gathered → Commanded Unit) (z : State) (r : Result Unit CommandFault) → Follows l.fn.hand.run command_cause (bind (all_begun l.fn.hand.run l.fn.hand.mail (drop l.name-index l.names) l.opened) later) (by_hand l.hand.kept (g.F.Files.state l.files)) z r
    → Follows l.fn.hand.run command_cause (bind (all_begun l.fn.hand.run l.fn.hand.mail l.fn.names l.fn.opened) later) (by_hand l.fn.hand.kept (g.F.Files.state l.fn.files)) z r)
