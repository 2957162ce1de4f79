use Rattle.std.proofs.Common.{refl}
use Rattle.file_plans.proofs.Following.{go_from, stop_from, done, no_room, refuses}
use Rattle.command_stages.proofs.Causes.{sink_same}
use Rattle.mh_looks.proofs.looking.show.Goals as goal

pub returns-in_err-line-in-Content : goal.returns-in_err-line-in-Content
returns-in_err-line-in-Content g c = λ run h f. no_room _ c.from_residual.ensures refl

pub returns-in_err-say-in-Content : goal.returns-in_err-say-in-Content
returns-in_err-say-in-Content g c = λ run h f. rw c.in-Content.is (stop_from _ sink_same (rw (c.as_slice-in-Content.ensures, c.in_ok-line-in-Content.ensures, c.as_slice.ensures) at (c.in_err-say-in-Content.ensures run h f)) c.from_residual-in_err-say-in-Content.ensures)

pub returns-in_ok-say-in-Content : goal.returns-in_ok-say-in-Content
returns-in_ok-say-in-Content g c = λ run h f. rw c.in-Content.is (go_from _ _ (rw (c.as_slice-in-Content.ensures, c.in_ok-line-in-Content.ensures, c.as_slice.ensures) at (c.in_ok-say-in-Content.ensures run h f)) done)

pub returns-in-Long : goal.returns-in-Long
returns-in-Long g c = λ run h f. rw c.in-Long.is (refuses _ refl)

pub returns-in_err-meddled-in-Gone : goal.returns-in_err-meddled-in-Gone
returns-in_err-meddled-in-Gone g c = λ run h f. no_room _ c.from_residual-in_err-meddled-in-Gone.ensures refl

pub returns-in_ok-meddled-in-Gone : goal.returns-in_ok-meddled-in-Gone
returns-in_ok-meddled-in-Gone g c = λ run h f. rw (c.in-Gone.is, c.in_ok-meddled-in-Gone.ensures) (refuses _ refl)
