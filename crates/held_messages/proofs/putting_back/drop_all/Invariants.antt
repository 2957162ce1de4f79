use Rattle.std.proofs.Common.{Result, drop}
use Rattle.file_plans.specs.Plan.{Hand}
use Rattle.file_plans.specs.Follows.{State, Follows, by_hand}
use Rattle.step_plans.specs.PlanFaults.{plan_cause}
use Rattle.step_plans.specs.declared.fault.PlanFault.{PlanFault}
use Rattle.held_messages.specs.Settle.{dropped}
use Rattle.held_messages.proofs.putting_back.drop_all.Given as goal

abbrev pub invariant-loop-at : goal.invariant-loop-at
invariant-loop-at g l = (h : Hand) (z : State) (r : Result Unit PlanFault) →
    Follows l.run plan_cause (dropped l.place (drop l.at l.pairs) (drop l.at l.ends)) (by_hand h (g.F.Files.state l.files)) z r →
    Follows l.run plan_cause (dropped l.place l.pairs l.ends) (by_hand h (g.F.Files.state l.fn.files)) z r
