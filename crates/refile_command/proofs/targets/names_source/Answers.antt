use Rattle.std.proofs.Common.{sym, ◌∙◌}
use Rattle.refile_plans.proofs.NamedTargets.{other_named}
use Rattle.refile_command.proofs.targets.names_source.Goals as goal

pub returns-else-same : goal.returns-else-same
returns-else-same c = other_named c.args.job.now.source c.args.job.now.target c.args.job.now.others _ (sym c.same.ensures ∙ c.if-same.false) (rw c.as_slice.ensures at c.is_named.ensures)
