use Rattle.std.proofs.Common.{Result, Option, List, ℕ, ◌≤◌, [], drop}
use Rattle.file_plans.specs.Plan.{Hand}
use Rattle.file_plans.specs.Follows.{State, Follows, by_hand}
use Rattle.step_plans.specs.PlanFaults.{plan_cause}
use Rattle.step_plans.specs.declared.fault.PlanFault.{PlanFault}
use Rattle.held_messages.specs.Settle.{all_homed}
use Rattle.held_messages.proofs.putting_back.put_all_home.Given as goal

abbrev pub invariant-loop-pair : goal.invariant-loop-pair
invariant-loop-pair g l = (l.top ≤ 999999) × ((h : Hand) (z : State) (r : Result (List (Option ℕ)) PlanFault) →
    Follows l.run plan_cause (all_homed l.place (drop l.pair-index l.pairs) l.top l.ends) (by_hand h (g.F.Files.state l.files)) z r →
    Follows l.run plan_cause (all_homed l.place l.pairs l.highest []) (by_hand h (g.F.Files.state l.fn.files)) z r)
