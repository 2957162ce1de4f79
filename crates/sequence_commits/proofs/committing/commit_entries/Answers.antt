use Rattle.std.proofs.Common.{refl}
use Rattle.file_plans.proofs.Following.{no_room}
use Rattle.sequence_commits.proofs.CommitPlans.{by_seen}
use Rattle.sequence_commits.proofs.committing.commit_entries.Goals as goal

pub returns-in_err-changes-clause-plan : goal.returns-in_err-changes-clause-plan
returns-in_err-changes-clause-plan g c = no_room _ c.from_residual.ensures refl

pub returns-clause-plan : goal.returns-clause-plan
returns-clause-plan g c = by_seen _ _ _ _ c.args.hand.now.kept _ (rw c.in_ok-changes.ensures.value at c.commit_context.ensures.plan)
