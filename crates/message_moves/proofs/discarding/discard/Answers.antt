use Rattle.file_plans.proofs.Following.{go, stop}
use Rattle.message_moves.specs.Moving.{held_discarded}
use Rattle.message_moves.proofs.discarding.discard.Goals as goal

pub returns-in_err-unlink : goal.returns-in_err-unlink
unfolding held_discarded
returns-in_err-unlink g c = λ h. stop _ (c.in_err-unlink.ensures h) c.from_residual.ensures

pub returns : goal.returns
unfolding held_discarded
returns g c = λ h. go _ (c.in_ok-unlink.ensures h) (c.sync.ensures h)
