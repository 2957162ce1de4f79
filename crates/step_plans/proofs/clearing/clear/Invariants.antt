use Rattle.std.proofs.Common.{Result, drop}
use Rattle.file_plans.specs.Plan.{Hand}
use Rattle.file_plans.specs.Follows.{State, Follows, by_hand}
use Rattle.step_plans.specs.declared.fault.PlanFault.{PlanFault}
use Rattle.step_plans.specs.Locking.{cleared}
use Rattle.step_plans.specs.PlanFaults.{plan_cause}
use Rattle.step_plans.proofs.clearing.clear.Given as goal

abbrev pub invariant-loop-name : goal.invariant-loop-name
invariant-loop-name g l = (h : Hand) (z : State) (r : Result Unit PlanFault) →
    Follows l.run plan_cause (cleared l.place (drop l.name-index l.names)) (by_hand h (g.F.Files.state l.files)) z r →
    Follows l.run plan_cause (cleared l.place l.names) (by_hand h (g.F.Files.state l.fn.files)) z r
