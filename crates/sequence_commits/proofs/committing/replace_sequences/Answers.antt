use Rattle.std.proofs.Common.{refl}
use Rattle.file_plans.proofs.Following.{no_room}
use Rattle.sequence_commits.proofs.CommitPlans.{too_long, not_long}
use Rattle.sequence_commits.proofs.committing.replace_sequences.Goals as goal

pub returns-then-length-gt-LIMIT-clause-plan : goal.returns-then-length-gt-LIMIT-clause-plan
returns-then-length-gt-LIMIT-clause-plan g c = too_long _ _ _ _ c.len-length.ensures c.if-length-gt-LIMIT.true

pub returns-in_err-name-clause-plan : goal.returns-in_err-name-clause-plan
returns-in_err-name-clause-plan g c = no_room _ c.from_residual.ensures refl

pub returns-clause-plan : goal.returns-clause-plan
returns-clause-plan g c = not_long _ _ _ _ c.len-length.ensures c.if-length-gt-LIMIT.false (rw c.in_ok-name.ensures.value at c.replace_file.ensures.plan)
