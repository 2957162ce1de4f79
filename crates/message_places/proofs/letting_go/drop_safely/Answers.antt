use Rattle.file_plans.proofs.Following.{go, stop}
use Rattle.message_places.specs.Arranging.{dropped_safely}
use Rattle.message_places.proofs.letting_go.drop_safely.Goals as goal

pub returns-in_err-sync_at : goal.returns-in_err-sync_at
unfolding dropped_safely
returns-in_err-sync_at g c = λ h. stop _ (c.in_err-sync_at.ensures h) c.from_residual.ensures

pub returns : goal.returns
unfolding dropped_safely
returns g c = λ h. go _ (c.in_ok-sync_at.ensures h) (c.drop_for_good.ensures h)
