use Rattle.std.proofs.Common.{refl}
use Rattle.file_plans.proofs.Following.{go, no_room, stop, whole}
use Rattle.opening_plans.proofs.EndingParts.{ends_so}
use Rattle.pick_plans.specs.Pick.{pick_changes}
use Rattle.opening_plans.proofs.EndsBeside.{ends_whole}
use Rattle.pick_command.proofs.changing.change.Goals as goal

pub returns-in_err-place-clause-plan : goal.returns-in_err-place-clause-plan
returns-in_err-place-clause-plan g c = no_room _ c.from_residual.ensures refl

pub returns-in_err-opened-clause-plan : goal.returns-in_err-opened-clause-plan
unfolding pick_changes
returns-in_err-opened-clause-plan g c = stop _ (whole c.in_err-opened.ensures.plan) c.from_residual-in_err-opened.ensures

pub returns-clause-plan : goal.returns-clause-plan
unfolding pick_changes
returns-clause-plan g c =
    go _ (whole c.in_ok-opened.ensures.plan)
    (ends_so _ _ c.pick_opened-done.result (rw (c.in_ok-opened.ensures.run, c.in_ok-opened.ensures.mail) at c.pick_opened-done.ensures.plan)
    (ends_whole _ _ _ _ _ _ _ _ (rw (c.in_ok-place.ensures, c.run.ensures, c.pick_opened-done.ensures.run, c.in_ok-opened.ensures.run) at (c.end.ensures c.pick_opened-done.new.hand.kept))))
