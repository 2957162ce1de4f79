use Rattle.std.proofs.Common.{refl}
use Rattle.file_plans.proofs.Following.{go, no_room, stop}
use Rattle.opening_plans.proofs.EndingParts.{ends_so}
use Rattle.sortm_plans.specs.Sort.{sortm}
use Rattle.sortm_plans.proofs.SortAlone.{sortm_alone}
use Rattle.sortm_plans.proofs.SortPledged.{sortm_promises}
use Rattle.sortm_command.proofs.sorting.sortm.Goals as goal

pub returns-in_err-place-clause-plan : goal.returns-in_err-place-clause-plan
returns-in_err-place-clause-plan g c = no_room _ c.from_residual.ensures refl

pub returns-in_err-opened-clause-plan : goal.returns-in_err-opened-clause-plan
unfolding sortm
returns-in_err-opened-clause-plan g c = stop _ c.in_err-opened.ensures.plan c.from_residual-in_err-opened.ensures

pub returns-clause-plan : goal.returns-clause-plan
unfolding sortm
returns-clause-plan g c =
    go _ c.in_ok-opened.ensures.plan
    (ends_so _ _ c.sort_opened-done.result (rw (c.in_ok-opened.ensures.run, c.in_ok-opened.ensures.mail) at c.sort_opened-done.ensures.plan)
    (rw (c.in_ok-place.ensures, c.run.ensures, c.sort_opened-done.ensures.run, c.in_ok-opened.ensures.run) at (c.end.ensures c.sort_opened-done.new.hand.kept)))

pub returns-in_err-place-clause-steps : goal.returns-in_err-place-clause-steps
returns-in_err-place-clause-steps g c = λ few. sortm_promises _ few _ _ _ _ _ (returns-in_err-place-clause-plan g c)

pub returns-in_err-opened-clause-steps : goal.returns-in_err-opened-clause-steps
returns-in_err-opened-clause-steps g c = λ few. sortm_promises _ few _ _ _ _ _ (returns-in_err-opened-clause-plan g c)

pub returns-clause-steps : goal.returns-clause-steps
returns-clause-steps g c = λ few. sortm_promises _ few _ _ _ _ _ (returns-clause-plan g c)

pub returns-in_err-place-clause-alone : goal.returns-in_err-place-clause-alone
returns-in_err-place-clause-alone g c = sortm_alone _ _ _ _ _ _ _ _ (returns-in_err-place-clause-plan g c)

pub returns-in_err-opened-clause-alone : goal.returns-in_err-opened-clause-alone
returns-in_err-opened-clause-alone g c = sortm_alone _ _ _ _ _ _ _ _ (returns-in_err-opened-clause-plan g c)

pub returns-clause-alone : goal.returns-clause-alone
returns-clause-alone g c = sortm_alone _ _ _ _ _ _ _ _ (returns-clause-plan g c)
