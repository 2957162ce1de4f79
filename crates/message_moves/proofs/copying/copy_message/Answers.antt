use Rattle.std.proofs.Common.{refl}
use Rattle.file_plans.proofs.Following.{go, no_room, stop}
use Rattle.message_moves.specs.Copying.{message_copied}
use Rattle.message_moves.proofs.copying.copy_message.Goals as goal

pub returns-in_err-name-clause-plan : goal.returns-in_err-name-clause-plan
returns-in_err-name-clause-plan g c = no_room _ c.from_residual.ensures refl

pub returns-in_err-bytes-clause-plan : goal.returns-in_err-bytes-clause-plan
unfolding message_copied
returns-in_err-bytes-clause-plan g c = stop _ (rw (c.run.ensures, c.in_ok-name.ensures.value) at (c.in_err-bytes.ensures c.args.hand.now.kept)) c.from_residual-in_err-bytes.ensures

pub returns-clause-plan : goal.returns-clause-plan
unfolding message_copied
returns-clause-plan g c = go _ (rw (c.run.ensures, c.in_ok-name.ensures.value) at (c.in_ok-bytes.ensures c.args.hand.now.kept)) c.copy_to_all.ensures.plan
