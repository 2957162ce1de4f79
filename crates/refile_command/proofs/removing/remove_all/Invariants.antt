use Rattle.std.proofs.Common.{Result, drop}
use Rattle.file_plans.specs.Plan.{Hand}
use Rattle.file_plans.specs.Follows.{Follows, State, by_hand}
use Rattle.step_plans.specs.PlanFaults.{plan_cause}
use Rattle.step_plans.specs.declared.fault.PlanFault.{PlanFault}
use Rattle.refile_plans.specs.Rmm.{all_removed}
use Rattle.refile_command.proofs.removing.remove_all.Given as goal

abbrev pub invariant-loop-number : goal.invariant-loop-number
invariant-loop-number g l = (h : Hand) (z : State) (r : Result Unit PlanFault) →
    Follows l.run plan_cause (all_removed l.place l.backup (drop l.number-index l.numbers)) (by_hand h (g.F.Files.state l.files)) z r →
    Follows l.run plan_cause (all_removed l.place l.backup l.numbers) (by_hand h (g.F.Files.state l.fn.files)) z r
