use Rattle.std.proofs.Common.{◌≡◌, ◌≤◌, ◌-◌, drop, length}
use Rattle.step_plans.specs.ContextCommit.{changed}
use Rattle.step_plans.proofs.change.change_all.Given as goal

abbrev pub invariant-loop-done : goal.invariant-loop-done
invariant-loop-done l = (changed (drop l.done l.changes) l.entries ≡ changed l.changes l.fn.entries) × (l.done ≤ length l.changes)

abbrev pub decreases-loop-done : goal.decreases-loop-done
decreases-loop-done l = length l.changes - l.done
