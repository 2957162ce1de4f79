use Rattle.std.proofs.Common.{refl}
use Rattle.file_plans.proofs.Following.{no_room}
use Rattle.sequence_commits.proofs.AloneCommitted.{commits_alone_at}
use Rattle.sequence_commits.proofs.CommitPlans.{tells_old}
use Rattle.sequence_commits.proofs.committing.commit_sequences.Goals as goal

pub returns-in_err-old-clause-plan : goal.returns-in_err-old-clause-plan
returns-in_err-old-clause-plan g c = no_room _ c.from_residual.ensures refl

pub returns-in_err-mark_all-clause-plan : goal.returns-in_err-mark_all-clause-plan
returns-in_err-mark_all-clause-plan g c = no_room _ c.from_residual-in_err-mark_all.ensures refl

pub returns-clause-plan : goal.returns-clause-plan
returns-clause-plan g c = tells_old _ _ _ _ _ _ _ _ _ c.in_ok-old.ensures.text c.in_ok-old.ensures.entries c.in_ok-mark_all.ensures.ok c.commit_new.ensures.plan

pub returns-clause-alone : goal.returns-clause-alone
returns-clause-alone g c = commits_alone_at _ _ _ _ _ _ _ _ _ (returns-clause-plan g c)
