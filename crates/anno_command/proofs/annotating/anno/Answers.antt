use Rattle.std.proofs.Common.{refl}
use Rattle.file_plans.proofs.Following.{go, no_room, stop}
use Rattle.opening_plans.proofs.EndingParts.{ends_so}
use Rattle.anno_plans.specs.Anno.{anno}
use Rattle.anno_plans.proofs.AnnoAlone.{anno_alone}
use Rattle.anno_plans.proofs.AnnoPledged.{anno_promises}
use Rattle.anno_command.proofs.annotating.anno.Goals as goal

pub returns-in_err-place-clause-plan : goal.returns-in_err-place-clause-plan
returns-in_err-place-clause-plan g c = no_room _ c.from_residual.ensures refl

pub returns-in_err-opened-clause-plan : goal.returns-in_err-opened-clause-plan
unfolding anno
returns-in_err-opened-clause-plan g c = stop _ c.in_err-opened.ensures.plan c.from_residual-in_err-opened.ensures

pub returns-clause-plan : goal.returns-clause-plan
unfolding anno
returns-clause-plan g c =
    go _ c.in_ok-opened.ensures.plan
    (ends_so _ _ c.note_opened-done.result (rw (c.in_ok-opened.ensures.run, c.in_ok-opened.ensures.mail) at c.note_opened-done.ensures.plan)
    (rw (c.in_ok-place.ensures, c.run.ensures, c.note_opened-done.ensures.run, c.in_ok-opened.ensures.run) at (c.end.ensures c.note_opened-done.new.hand.kept)))

pub returns-in_err-place-clause-steps : goal.returns-in_err-place-clause-steps
returns-in_err-place-clause-steps g c = λ few lines. anno_promises _ few _ _ lines _ _ _ (returns-in_err-place-clause-plan g c)

pub returns-in_err-opened-clause-steps : goal.returns-in_err-opened-clause-steps
returns-in_err-opened-clause-steps g c = λ few lines. anno_promises _ few _ _ lines _ _ _ (returns-in_err-opened-clause-plan g c)

pub returns-clause-steps : goal.returns-clause-steps
returns-clause-steps g c = λ few lines. anno_promises _ few _ _ lines _ _ _ (returns-clause-plan g c)

pub returns-in_err-place-clause-alone : goal.returns-in_err-place-clause-alone
returns-in_err-place-clause-alone g c = anno_alone _ _ _ _ _ _ _ _ (returns-in_err-place-clause-plan g c)

pub returns-in_err-opened-clause-alone : goal.returns-in_err-opened-clause-alone
returns-in_err-opened-clause-alone g c = anno_alone _ _ _ _ _ _ _ _ (returns-in_err-opened-clause-plan g c)

pub returns-clause-alone : goal.returns-clause-alone
returns-clause-alone g c = anno_alone _ _ _ _ _ _ _ _ (returns-clause-plan g c)
