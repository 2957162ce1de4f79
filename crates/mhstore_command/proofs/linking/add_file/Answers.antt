use Rattle.file_plans.proofs.Following.{go, stop}
use Rattle.mhstore_plans.specs.Files.{file_added}
use Rattle.mhstore_command.proofs.linking.add_file.Goals as goal

pub returns-in_err-temp-clause-plan : goal.returns-in_err-temp-clause-plan
unfolding file_added
returns-in_err-temp-clause-plan g c = stop _ c.in_err-temp.ensures.plan c.from_residual.ensures

pub returns-in_err-free-clause-plan : goal.returns-in_err-free-clause-plan
unfolding file_added
returns-in_err-free-clause-plan g c = go _ c.in_ok-temp.ensures.plan (stop _ (rw c.run-run.ensures at (c.in_err-free.ensures c.write_file.new.hand.kept)) c.from_residual-in_err-free.ensures)

pub returns-in_err-unlink-clause-plan : goal.returns-in_err-unlink-clause-plan
unfolding file_added
returns-in_err-unlink-clause-plan g c =
    go _ c.in_ok-temp.ensures.plan
    (go _ (rw c.run-run.ensures at (c.in_ok-free.ensures c.write_file.new.hand.kept)) (stop _ (rw c.run-run.ensures at (c.in_err-unlink.ensures c.write_file.new.hand.kept)) c.from_residual-in_err-unlink.ensures))

pub returns-clause-plan : goal.returns-clause-plan
unfolding file_added
returns-clause-plan g c =
    go _ c.in_ok-temp.ensures.plan
    (go _ (rw c.run-run.ensures at (c.in_ok-free.ensures c.write_file.new.hand.kept))
    (go _ (rw c.run-run.ensures at (c.in_ok-unlink.ensures c.write_file.new.hand.kept)) (rw c.run-run.ensures at (c.sync_free.ensures c.write_file.new.hand.kept))))
