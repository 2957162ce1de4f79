use Rattle.file_plans.proofs.Following.{go, stop, whole}
use Rattle.inc_plans.specs.Inc.{opened_incorporated}
use Rattle.inc_command.proofs.incorporating.incorporate.Goals as goal

pub returns-in_err-size-clause-plan : goal.returns-in_err-size-clause-plan
unfolding opened_incorporated
returns-in_err-size-clause-plan g c = stop _ (whole (rw (c.run.ensures, c.highest-highest.ensures.value, c.listing.ensures) at (c.in_err-size.ensures c.args.hand.now.kept))) c.from_residual.ensures

pub returns-in_err-taken-clause-plan : goal.returns-in_err-taken-clause-plan
unfolding opened_incorporated
returns-in_err-taken-clause-plan g c =
    go _ (whole (rw (c.run.ensures, c.highest-highest.ensures.value, c.listing.ensures) at (c.in_ok-size.ensures c.args.hand.now.kept))) (stop _ c.in_err-taken.ensures.plan c.from_residual-in_err-taken.ensures)

pub returns-in_err-mark_new-clause-plan : goal.returns-in_err-mark_new-clause-plan
unfolding opened_incorporated
returns-in_err-mark_new-clause-plan g c =
    go _ (whole (rw (c.run.ensures, c.highest-highest.ensures.value, c.listing.ensures) at (c.in_ok-size.ensures c.args.hand.now.kept)))
    (go _ c.in_ok-taken.ensures.plan (stop _ (whole (rw (c.in_ok-taken.ensures.same.0, c.in_ok-taken.ensures.same.1, c.as_slice.ensures) at c.in_err-mark_new.ensures.plan)) c.from_residual-in_err-mark_new.ensures))

pub returns-clause-plan : goal.returns-clause-plan
unfolding opened_incorporated
returns-clause-plan g c =
    go _ (whole (rw (c.run.ensures, c.highest-highest.ensures.value, c.listing.ensures) at (c.in_ok-size.ensures c.args.hand.now.kept)))
    (go _ c.in_ok-taken.ensures.plan
    (go _ (whole (rw (c.in_ok-taken.ensures.same.0, c.in_ok-taken.ensures.same.1, c.as_slice.ensures) at c.in_ok-mark_new.ensures.plan))
    (whole (rw (c.run-2.ensures, c.in_ok-mark_new.ensures.same.0, c.in_ok-taken.ensures.same.0) at (c.cut_drop.ensures c.mark_new.new.hand.kept)))))
