use Rattle.std.proofs.Common.{Result, drop}
use Rattle.file_plans.specs.Plan.{Hand}
use Rattle.file_plans.specs.Follows.{State, Follows, by_out}
use Rattle.step_plans.specs.CommandFaults.{command_cause}
use Rattle.step_plans.specs.declared.command_fault.CommandFault.{CommandFault}
use Rattle.mhlist_plans.specs.Listing.{all_listed}
use Rattle.mhlist_command.proofs.rows.list_all.Given as goal

abbrev pub invariant-loop-number : goal.invariant-loop-number
invariant-loop-number g l = (h : Hand) (z : State) (r : Result Unit CommandFault) →
    Follows l.run command_cause (all_listed l.wanted l.place (drop l.number-index l.numbers)) (by_out h (g.F.Files.state l.files) (g.O.Sink.state l.out)) z r →
    Follows l.run command_cause (all_listed l.wanted l.place l.numbers) (by_out h (g.F.Files.state l.fn.files) (g.O.Sink.state l.fn.out)) z r
