use Rattle.file_plans.proofs.Following.{go, stop}
use Rattle.held_messages.specs.Settle.{dropped_for_good}
use Rattle.held_messages.proofs.putting_back.drop_for_good.Goals as goal

pub returns-in_err-drop_all : goal.returns-in_err-drop_all
unfolding dropped_for_good
returns-in_err-drop_all g c = λ h. stop _ (c.in_err-drop_all.ensures h) c.from_residual.ensures

pub returns : goal.returns
unfolding dropped_for_good
returns g c = λ h. go _ (c.in_ok-drop_all.ensures h) (c.sync_at.ensures h)
