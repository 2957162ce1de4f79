use Rattle.std.proofs.Common.{refl}
use Rattle.file_plans.proofs.Following.{go, no_room, stop}
use Rattle.opening_plans.proofs.EndingParts.{ends_so}
use Rattle.refile_plans.specs.Rmm.{rmm}
use Rattle.refile_plans.proofs.RmmPledged.{rmm_promises}
use Rattle.refile_command.proofs.leaving.rmm.Goals as goal

pub returns-in_err-place-clause-plan : goal.returns-in_err-place-clause-plan
returns-in_err-place-clause-plan g c = no_room _ c.from_residual.ensures refl

pub returns-in_err-opened-clause-plan : goal.returns-in_err-opened-clause-plan
unfolding rmm
returns-in_err-opened-clause-plan g c = stop _ c.in_err-opened.ensures.plan c.from_residual-in_err-opened.ensures

pub returns-clause-plan : goal.returns-clause-plan
unfolding rmm
returns-clause-plan g c =
    go _ c.in_ok-opened.ensures.plan
    (ends_so _ _ c.remove_opened-done.result (rw (c.in_ok-opened.ensures.run, c.in_ok-opened.ensures.mail) at c.remove_opened-done.ensures.plan)
    (rw (c.in_ok-place.ensures, c.run.ensures, c.remove_opened-done.ensures.run, c.in_ok-opened.ensures.run) at (c.end.ensures c.remove_opened-done.new.hand.kept)))

pub returns-in_err-place-clause-steps : goal.returns-in_err-place-clause-steps
returns-in_err-place-clause-steps g c = λ few. rmm_promises _ few _ _ _ _ _ (returns-in_err-place-clause-plan g c)

pub returns-in_err-opened-clause-steps : goal.returns-in_err-opened-clause-steps
returns-in_err-opened-clause-steps g c = λ few. rmm_promises _ few _ _ _ _ _ (returns-in_err-opened-clause-plan g c)

pub returns-clause-steps : goal.returns-clause-steps
returns-clause-steps g c = λ few. rmm_promises _ few _ _ _ _ _ (returns-clause-plan g c)
