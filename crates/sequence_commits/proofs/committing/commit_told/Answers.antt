use Rattle.file_plans.proofs.Following.{go, stop}
use Rattle.sequence_commits.specs.Committing.{told_committed}
use Rattle.sequence_commits.proofs.committing.commit_told.Goals as goal

pub returns-in_err-replace_sequences-clause-plan : goal.returns-in_err-replace_sequences-clause-plan
unfolding told_committed
returns-in_err-replace_sequences-clause-plan g c = stop _ c.in_err-replace_sequences.ensures.plan c.from_residual.ensures

pub returns-clause-plan : goal.returns-clause-plan
unfolding told_committed
returns-clause-plan g c =
    go _ c.in_ok-replace_sequences.ensures.plan
    (rw (c.in_ok-replace_sequences.ensures.same.0, c.in_ok-replace_sequences.ensures.same.1, c.as_slice.ensures) at c.commit_entries.ensures.plan)
