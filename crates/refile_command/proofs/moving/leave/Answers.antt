use Rattle.file_plans.proofs.Following.{go, stop}
use Rattle.refile_plans.specs.Refile.{messages_left}
use Rattle.refile_command.proofs.moving.leave.Goals as goal

pub returns-in_err-refile_chosen-clause-plan : goal.returns-in_err-refile_chosen-clause-plan
unfolding messages_left
returns-in_err-refile_chosen-clause-plan g c = stop _ (rw c.place.ensures at c.in_err-refile_chosen.ensures.plan) c.from_residual.ensures

pub returns-in_err-sync_source-clause-plan : goal.returns-in_err-sync_source-clause-plan
unfolding messages_left
returns-in_err-sync_source-clause-plan g c =
    go _ (rw c.place.ensures at c.in_ok-refile_chosen.ensures.plan) (stop _ (rw (c.run.ensures, c.in_ok-refile_chosen.ensures.same.0, c.place-2.ensures) at (c.in_err-sync_source.ensures c.refile_chosen.new.hand.kept)) c.from_residual-in_err-sync_source.ensures)

pub returns-clause-plan : goal.returns-clause-plan
unfolding messages_left
returns-clause-plan g c =
    go _ (rw c.place.ensures at c.in_ok-refile_chosen.ensures.plan)
    (go _ (rw (c.run.ensures, c.in_ok-refile_chosen.ensures.same.0, c.place-2.ensures) at (c.in_ok-sync_source.ensures c.refile_chosen.new.hand.kept)) (rw (c.in_ok-refile_chosen.ensures.same.0, c.in_ok-refile_chosen.ensures.same.1) at c.withdraw.ensures.plan))
