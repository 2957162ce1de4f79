use Rattle.std.proofs.Common.{List, Result, ℕ, ◌≤◌, [], drop}
use Rattle.file_plans.specs.Plan.{Hand}
use Rattle.file_plans.specs.Follows.{Follows, State, by_hand}
use Rattle.step_plans.specs.PlanFaults.{plan_cause}
use Rattle.step_plans.specs.declared.fault.PlanFault.{PlanFault}
use Rattle.message_places.specs.Arranging.{all_given}
use Rattle.message_places.proofs.giving.give_all.Given as goal

abbrev pub invariant-loop-one : goal.invariant-loop-one
invariant-loop-one g l =
    (l.top ≤ 999999) × ((h : Hand) (z : State) (r : Result (List ℕ) PlanFault) → Follows l.run plan_cause (all_given l.run l.place (drop l.one-index l.moves) l.top l.ends) (by_hand h (g.F.Files.state l.files)) z r
    → Follows l.run plan_cause (all_given l.run l.place l.moves l.highest []) (by_hand h (g.F.Files.state l.fn.files)) z r)
