use Rattle.std.proofs.Common.{Result, Option, ℕ}
use Rattle.file_plans.specs.Plan.{Hand}
use Rattle.file_plans.specs.Follows.{State, Follows, by_hand}
use Rattle.step_plans.specs.PlanFaults.{plan_cause}
use Rattle.step_plans.specs.declared.fault.PlanFault.{PlanFault}
use Rattle.held_messages.specs.Settle.{given_from}
use Rattle.held_messages.proofs.homing.link_up.Given as goal

abbrev pub invariant-loop-at : goal.invariant-loop-at
invariant-loop-at g l = (h : Hand) (z : State) (r : Result (Option ℕ) PlanFault) →
    Follows l.run plan_cause (given_from l.place l.held l.at) (by_hand h (g.F.Files.state l.files)) z r →
    Follows l.run plan_cause (given_from l.place l.held l.first) (by_hand h (g.F.Files.state l.fn.files)) z r
