use Rattle.std.proofs.Common.{◌≡◌, ◌≤◌, ◌+◌, ◌-◌, ℕ, List, length}
use Rattle.mbox_drop.specs.Counting.{HasCounted}
use Rattle.file_plans.specs.Plan.{Hand}
use Rattle.file_plans.specs.Follows.{by_hand}
use Rattle.inc_plans.proofs.Rounds.{HasRead}
use Rattle.inc_command.proofs.counting.count_rest.Given as goal

abbrev pub invariant-loop-at : goal.invariant-loop-at
invariant-loop-at g l =
    (h : Hand) (d : List ℕ) (fuel : ℕ) → HasCounted l.fn.first d → length d ≡ l.fn.from → l.length ≤ l.fn.from + fuel
    → HasRead l.run l.path l.length fuel d (by_hand h (g.F.Files.state l.fn.files)) (by_hand h (g.F.Files.state l.files)) l.counter l.at

abbrev pub decreases-loop-at : goal.decreases-loop-at
decreases-loop-at g l = l.length - l.at
