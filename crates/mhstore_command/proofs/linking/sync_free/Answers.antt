use Rattle.file_plans.proofs.Following.{done, go, stop}
use Rattle.mhstore_command.proofs.linking.sync_free.Goals as goal

pub returns-in_err-sync : goal.returns-in_err-sync
returns-in_err-sync g c = λ h. rw c.if-free.true (stop _ (c.in_err-sync.ensures h) c.from_residual.ensures)

pub returns-in_ok-sync : goal.returns-in_ok-sync
returns-in_ok-sync g c = λ h. rw c.if-free.true (go _ (c.in_ok-sync.ensures h) done)

pub returns-else-free : goal.returns-else-free
returns-else-free g c = λ h. rw c.if-free.false done
