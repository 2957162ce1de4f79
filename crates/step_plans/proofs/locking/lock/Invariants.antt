use Rattle.std.proofs.Common.{Result, ◌-◌}
use Rattle.file_plans.specs.Plan.{Hand}
use Rattle.file_plans.specs.Follows.{State, Follows, by_hand}
use Rattle.step_plans.specs.declared.fault.PlanFault.{PlanFault}
use Rattle.step_plans.specs.Locking.{locked}
use Rattle.step_plans.specs.PlanFaults.{plan_cause}
use Rattle.step_plans.proofs.locking.lock.Given as goal

abbrev pub invariant-loop-at : goal.invariant-loop-at
invariant-loop-at g l = (h : Hand) (z : State) (r : Result Unit PlanFault) →
    Follows l.run plan_cause (locked l.place (l.tries - l.at)) (by_hand h (g.F.Files.state l.files)) z r →
    Follows l.run plan_cause (locked l.place l.tries) (by_hand h (g.F.Files.state l.fn.files)) z r
