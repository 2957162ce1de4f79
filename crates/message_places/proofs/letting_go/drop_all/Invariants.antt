use Rattle.std.proofs.Common.{Result, drop}
use Rattle.file_plans.specs.Plan.{Hand}
use Rattle.file_plans.specs.Follows.{Follows, State, by_hand}
use Rattle.step_plans.specs.PlanFaults.{plan_cause}
use Rattle.step_plans.specs.declared.fault.PlanFault.{PlanFault}
use Rattle.message_places.specs.Arranging.{all_dropped}
use Rattle.message_places.proofs.letting_go.drop_all.Given as goal

abbrev pub invariant-loop-one : goal.invariant-loop-one
invariant-loop-one g l =
    (h : Hand) (z : State) (r : Result Unit PlanFault) → Follows l.run plan_cause (all_dropped l.run l.place (drop l.one-index l.moves)) (by_hand h (g.F.Files.state l.files)) z r
    → Follows l.run plan_cause (all_dropped l.run l.place l.moves) (by_hand h (g.F.Files.state l.fn.files)) z r
