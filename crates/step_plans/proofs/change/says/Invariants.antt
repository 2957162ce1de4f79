use Rattle.std.proofs.Common.{◌≡◌, drop}
use Rattle.step_plans.specs.ContextCommit.{says}
use Rattle.step_plans.proofs.change.says.Given as goal

abbrev pub invariant-loop-change : goal.invariant-loop-change
invariant-loop-change l = says l.entries (drop l.change-index l.changes) ≡ says l.entries l.changes
