use Rattle.std.proofs.Common.{refl}
use Rattle.file_plans.proofs.Following.{go, no_room, stop}
use Rattle.refile_plans.specs.Refile.{refile}
use Rattle.refile_plans.proofs.RefileFollowed.{refiled_so, then_refiled}
use Rattle.refile_plans.proofs.RefilePledged.{refile_promises}
use Rattle.refile_command.proofs.refiling.refile.Goals as goal

pub returns-in_err-names-clause-plan : goal.returns-in_err-names-clause-plan
returns-in_err-names-clause-plan g c = no_room _ c.from_residual.ensures refl

pub returns-in_err-source-clause-plan : goal.returns-in_err-source-clause-plan
unfolding refile
returns-in_err-source-clause-plan g c = stop _ c.in_err-source.ensures.plan c.from_residual-in_err-source.ensures

pub returns-clause-plan : goal.returns-clause-plan
unfolding refile
returns-clause-plan g c =
    go _ c.in_ok-source.ensures.plan
    ((rw (c.in_ok-source.ensures.run, c.in_ok-source.ensures.mail, c.as_slice.ensures, c.in_ok-names.ensures, c.new-others.ensures) at c.begin_all-begun.ensures.plan) (then_refiled _ _ c.args.job.now c.in_ok-source.source) _ _
    (refiled_so _ _ c.args.job.now c.in_ok-source.source _ c.begin_all-begun.result c.refile_gathered-done.result _ _ _ _
    (rw (c.begin_all-begun.ensures.same.0, c.begin_all-begun.ensures.same.1, c.in_ok-source.ensures.run, c.in_ok-source.ensures.mail, c.as_slice-2.ensures) at c.refile_gathered-done.ensures.plan)
    (rw (c.run.ensures, c.refile_gathered-done.ensures.same.0, c.begin_all-begun.ensures.same.0, c.in_ok-source.ensures.run, c.refile_gathered-done.ensures.place, c.as_slice-3.ensures) at (c.end_all.ensures c.refile_gathered-done.new.hand.kept))))

pub returns-in_err-names-clause-steps : goal.returns-in_err-names-clause-steps
returns-in_err-names-clause-steps g c = λ few. refile_promises _ few _ _ _ _ _ (returns-in_err-names-clause-plan g c)

pub returns-in_err-source-clause-steps : goal.returns-in_err-source-clause-steps
returns-in_err-source-clause-steps g c = λ few. refile_promises _ few _ _ _ _ _ (returns-in_err-source-clause-plan g c)

pub returns-clause-steps : goal.returns-clause-steps
returns-clause-steps g c = λ few. refile_promises _ few _ _ _ _ _ (returns-clause-plan g c)
