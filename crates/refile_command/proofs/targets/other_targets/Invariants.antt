use Rattle.std.proofs.Common.{◌∷◌, drop}
use Rattle.refile_plans.proofs.NamedTargets.{IsOnWay}
use Rattle.refile_command.proofs.targets.other_targets.Given as goal

abbrev pub invariant-loop-name : goal.invariant-loop-name
invariant-loop-name l = IsOnWay l.job.source (l.job.target ∷ l.job.others) l.names (drop l.name-index l.name-items)
