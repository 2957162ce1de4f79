use Rattle.std.proofs.Common.{refl}
use Rattle.file_plans.proofs.Following.{go, no_room, stop, whole}
use Rattle.opening_plans.proofs.EndingParts.{ends_so}
use Rattle.opening_plans.proofs.EndsBeside.{ends_whole}
use Rattle.pack_plans.specs.Pack.{pack}
use Rattle.pack_plans.proofs.PackAlone.{pack_alone}
use Rattle.pack_plans.proofs.PackPledged.{pack_promises}
use Rattle.pack_command.proofs.packing.pack.Goals as goal

pub returns-in_err-place-clause-plan : goal.returns-in_err-place-clause-plan
returns-in_err-place-clause-plan g c = no_room _ c.from_residual.ensures refl

pub returns-in_err-opened-clause-plan : goal.returns-in_err-opened-clause-plan
unfolding pack
returns-in_err-opened-clause-plan g c = stop _ (whole c.in_err-opened.ensures.plan) c.from_residual-in_err-opened.ensures

pub returns-clause-plan : goal.returns-clause-plan
unfolding pack
returns-clause-plan g c =
    go _ (whole c.in_ok-opened.ensures.plan)
    (ends_so _ _ c.pack_opened-done.result (rw (c.in_ok-opened.ensures.run, c.in_ok-opened.ensures.mail) at c.pack_opened-done.ensures.plan)
    (ends_whole _ _ _ _ _ _ _ _ (rw (c.in_ok-place.ensures, c.run.ensures, c.pack_opened-done.ensures.run, c.in_ok-opened.ensures.run) at (c.end.ensures c.pack_opened-done.new.hand.kept))))

pub returns-in_err-place-clause-steps : goal.returns-in_err-place-clause-steps
returns-in_err-place-clause-steps g c = λ few. pack_promises _ few _ _ _ _ _ (returns-in_err-place-clause-plan g c)

pub returns-in_err-opened-clause-steps : goal.returns-in_err-opened-clause-steps
returns-in_err-opened-clause-steps g c = λ few. pack_promises _ few _ _ _ _ _ (returns-in_err-opened-clause-plan g c)

pub returns-clause-steps : goal.returns-clause-steps
returns-clause-steps g c = λ few. pack_promises _ few _ _ _ _ _ (returns-clause-plan g c)

pub returns-in_err-place-clause-alone : goal.returns-in_err-place-clause-alone
returns-in_err-place-clause-alone g c = pack_alone _ _ _ _ _ _ _ _ _ _ (returns-in_err-place-clause-plan g c)

pub returns-in_err-opened-clause-alone : goal.returns-in_err-opened-clause-alone
returns-in_err-opened-clause-alone g c = pack_alone _ _ _ _ _ _ _ _ _ _ (returns-in_err-opened-clause-plan g c)

pub returns-clause-alone : goal.returns-clause-alone
returns-clause-alone g c = pack_alone _ _ _ _ _ _ _ _ _ _ (returns-clause-plan g c)
