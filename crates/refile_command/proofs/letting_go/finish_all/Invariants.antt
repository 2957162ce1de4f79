use Rattle.std.proofs.Common.{Result, drop}
use Rattle.std.specs.Prelude.{map}
use Rattle.file_plans.specs.Follows.{Follows, State, by_hand}
use Rattle.file_plans.specs.Plan.{Hand}
use Rattle.step_plans.specs.CommandFaults.{command_cause}
use Rattle.step_plans.specs.declared.command_fault.CommandFault.{CommandFault}
use Rattle.refile_plans.specs.Gathering.{all_finished}
use Rattle.refile_command.proofs.letting_go.finish_all.Given as goal

abbrev pub invariant-loop-one : goal.invariant-loop-one
invariant-loop-one g l = (h : Hand) (z : State) (r : Result Unit CommandFault) →
    Follows l.run command_cause (all_finished (map (λ o. o.place) (drop l.one-index l.opened))) (by_hand h (g.F.Files.state l.files)) z r →
    Follows l.run command_cause (all_finished (map (λ o. o.place) l.opened)) (by_hand h (g.F.Files.state l.fn.files)) z r
