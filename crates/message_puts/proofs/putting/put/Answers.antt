use Rattle.file_plans.proofs.Following.{done, go, stop}
use Rattle.message_puts.specs.Putting.{message_put}
use Rattle.message_puts.proofs.putting.put.Goals as goal

pub returns-in_err-temp-clause-plan : goal.returns-in_err-temp-clause-plan
unfolding message_put
returns-in_err-temp-clause-plan g c = stop _ c.in_err-temp.ensures.plan c.from_residual.ensures

pub returns-in_err-number-clause-plan : goal.returns-in_err-number-clause-plan
unfolding message_put
returns-in_err-number-clause-plan g c = go _ c.in_ok-temp.ensures.plan (stop _ (rw c.run-run.ensures at (c.in_err-number.ensures c.write_file.new.hand.kept)) c.from_residual-in_err-number.ensures)

pub returns-in_err-unlink-clause-plan : goal.returns-in_err-unlink-clause-plan
unfolding message_put
returns-in_err-unlink-clause-plan g c = go _ c.in_ok-temp.ensures.plan (go _ (rw c.run-run.ensures at (c.in_ok-number.ensures c.write_file.new.hand.kept)) (stop _ (rw c.run-run.ensures at (c.in_err-unlink.ensures c.write_file.new.hand.kept)) c.from_residual-in_err-unlink.ensures))

pub returns-clause-plan : goal.returns-clause-plan
unfolding message_put
returns-clause-plan g c = go _ c.in_ok-temp.ensures.plan (go _ (rw c.run-run.ensures at (c.in_ok-number.ensures c.write_file.new.hand.kept)) (go _ (rw c.run-run.ensures at (c.in_ok-unlink.ensures c.write_file.new.hand.kept)) done))
