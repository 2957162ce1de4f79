use Rattle.file_plans.proofs.Following.{done, go, stop}
use Rattle.message_places.specs.Arranging.{arranged}
use Rattle.message_places.proofs.arranging.arrange.Goals as goal

pub returns-in_err-take_all : goal.returns-in_err-take_all
unfolding arranged
returns-in_err-take_all g c = λ h. stop _ (c.in_err-take_all.ensures h) c.from_residual.ensures

pub returns-in_err-ends : goal.returns-in_err-ends
unfolding arranged
returns-in_err-ends g c = λ h. go _ (c.in_ok-take_all.ensures h) (stop _ (c.in_err-ends.ensures h) c.from_residual-in_err-ends.ensures)

pub returns-in_err-let_go : goal.returns-in_err-let_go
unfolding arranged
returns-in_err-let_go g c = λ h. go _ (c.in_ok-take_all.ensures h) (go _ (c.in_ok-ends.ensures h) (stop _ (rw c.as_slice.ensures at (c.in_err-let_go.ensures h)) c.from_residual-in_err-let_go.ensures))

pub returns : goal.returns
unfolding arranged
returns g c = λ h. go _ (c.in_ok-take_all.ensures h) (go _ (c.in_ok-ends.ensures h) (go _ (rw c.as_slice.ensures at (c.in_ok-let_go.ensures h)) done))
