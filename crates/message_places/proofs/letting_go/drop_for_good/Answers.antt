use Rattle.file_plans.proofs.Following.{go, stop}
use Rattle.message_places.specs.Arranging.{dropped_for_good}
use Rattle.message_places.proofs.letting_go.drop_for_good.Goals as goal

pub returns-in_err-drop_all : goal.returns-in_err-drop_all
unfolding dropped_for_good
returns-in_err-drop_all g c = λ h. stop _ (c.in_err-drop_all.ensures h) c.from_residual.ensures

pub returns : goal.returns
unfolding dropped_for_good
returns g c = λ h. go _ (c.in_ok-drop_all.ensures h) (c.sync_at.ensures h)
