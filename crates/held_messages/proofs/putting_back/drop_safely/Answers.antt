use Rattle.file_plans.proofs.Following.{go, stop, done}
use Rattle.held_messages.specs.Settle.{dropped_safely}
use Rattle.held_messages.proofs.putting_back.drop_safely.Goals as goal

pub returns-in_err-sync_at : goal.returns-in_err-sync_at
unfolding dropped_safely
returns-in_err-sync_at g c = λ h. stop _ (c.in_err-sync_at.ensures h) c.from_residual.ensures

pub returns-in_err-drop_for_good : goal.returns-in_err-drop_for_good
unfolding dropped_safely
returns-in_err-drop_for_good g c = λ h. go _ (c.in_ok-sync_at.ensures h) (stop _ (rw c.as_slice.ensures at (c.in_err-drop_for_good.ensures h)) c.from_residual-in_err-drop_for_good.ensures)

pub returns : goal.returns
unfolding dropped_safely
returns g c = λ h. go _ (c.in_ok-sync_at.ensures h) (go _ (rw c.as_slice.ensures at (c.in_ok-drop_for_good.ensures h)) done)
