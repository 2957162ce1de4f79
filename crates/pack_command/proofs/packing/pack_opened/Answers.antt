use Rattle.std.proofs.Common.{refl}
use Rattle.file_plans.proofs.Following.{go, no_room, stop, whole}
use Rattle.pack_plans.specs.Pack.{opened_packed}
use Rattle.pack_command.proofs.packing.pack_opened.Goals as goal

pub returns-in_err-standing-clause-plan : goal.returns-in_err-standing-clause-plan
returns-in_err-standing-clause-plan g c = no_room _ c.from_residual.ensures refl

pub returns-in_err-ends-clause-plan : goal.returns-in_err-ends-clause-plan
unfolding opened_packed
returns-in_err-ends-clause-plan g c =
    stop _ (whole (rw (c.in_ok-standing.ensures.0, c.in_ok-standing.ensures.1, c.listing.ensures) at c.in_err-ends.ensures.plan)) c.from_residual-in_err-ends.ensures

pub returns-clause-plan : goal.returns-clause-plan
unfolding opened_packed
returns-clause-plan g c =
    go _ (whole (rw (c.in_ok-standing.ensures.0, c.in_ok-standing.ensures.1, c.listing.ensures) at c.in_ok-ends.ensures.plan))
    (rw (c.as_slice.ensures, c.sequences.ensures, c.in_ok-ends.ensures.left, c.in_ok-ends.ensures.run, c.in_ok-ends.ensures.mail, c.in_ok-standing.ensures.0, c.in_ok-standing.ensures.1, c.listing.ensures) at c.tell_packed.ensures.plan)
