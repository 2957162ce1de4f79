use Rattle.file_plans.proofs.Following.{done, go, stop, whole}
use Rattle.inc_plans.specs.Taking.{message_taken}
use Rattle.inc_command.proofs.taking.take.Goals as goal

pub returns-in_err-number-clause-plan : goal.returns-in_err-number-clause-plan
unfolding message_taken
returns-in_err-number-clause-plan g c = stop _ (whole c.in_err-number.ensures.plan) c.from_residual.ensures

pub returns-in_err-tell-clause-plan : goal.returns-in_err-tell-clause-plan
unfolding message_taken
returns-in_err-tell-clause-plan g c = go _ (whole c.in_ok-number.ensures.plan) (stop _ (rw c.in_ok-number.ensures.bytes at (c.in_err-tell.ensures c.args.hand.now.run c.store_in.new.hand.kept (g.F.Files.state c.store_in.new.files))) c.from_residual-in_err-tell.ensures)

pub returns-clause-plan : goal.returns-clause-plan
unfolding message_taken
returns-clause-plan g c = go _ (whole c.in_ok-number.ensures.plan) (go _ (rw c.in_ok-number.ensures.bytes at (c.in_ok-tell.ensures c.args.hand.now.run c.store_in.new.hand.kept (g.F.Files.state c.store_in.new.files))) done)
