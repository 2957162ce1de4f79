use Rattle.std.proofs.Common.{refl}
use Rattle.file_plans.proofs.Following.{no_room}
use Rattle.sequence_commits.proofs.CommitPlans.{tells_by, unchanged, changes}
use Rattle.sequence_commits.proofs.committing.commit_new.Goals as goal

pub returns-in_err-new-clause-plan : goal.returns-in_err-new-clause-plan
returns-in_err-new-clause-plan g c = no_room _ c.from_residual.ensures refl

pub returns-then-same-clause-plan : goal.returns-then-same-clause-plan
returns-then-same-clause-plan g c =
    unchanged _ _ _ _ _ _ _ (tells_by c.args.folder.now c.args.new.now _ _ _ _ _ c.same.ensures c.in_ok-new.ensures.text c.in_ok-new.ensures.entries) c.if-same.true

pub returns-clause-plan : goal.returns-clause-plan
returns-clause-plan g c =
    changes _ _ _ _ _ _ _ (tells_by c.args.folder.now c.args.new.now _ _ _ _ _ c.same.ensures c.in_ok-new.ensures.text c.in_ok-new.ensures.entries) c.if-same.false
    (rw (c.in_ok-new.ensures.text, c.in_ok-new.ensures.entries) at c.commit_told.ensures.plan)
