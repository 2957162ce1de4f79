use Rattle.std.proofs.Common.{refl}
use Rattle.file_plans.proofs.Following.{go_from, stop_from, no_room}
use Rattle.step_plans.proofs.Faulting.{stop_same}
use Rattle.opening_plans.specs.Opening.{mail_made}
use Rattle.opened_folders.proofs.beginning.make_mail.Goals as goal

pub returns-in_err-duplicate : goal.returns-in_err-duplicate
returns-in_err-duplicate g c = λ h. no_room _ c.from_residual.ensures refl

pub returns-in_err-name : goal.returns-in_err-name
returns-in_err-name g c = λ h. no_room _ c.from_residual-in_err-name.ensures refl

pub returns-in_err-ask_make_folder : goal.returns-in_err-ask_make_folder
unfolding mail_made
returns-in_err-ask_make_folder g c = λ h. stop_from _ stop_same (rw c.in_ok-duplicate.ensures at (c.in_err-ask_make_folder.ensures h)) c.from_residual-in_err-ask_make_folder.ensures

pub returns : goal.returns
unfolding mail_made
returns g c = λ h. go_from _ _ (rw c.in_ok-duplicate.ensures at (c.in_ok-ask_make_folder.ensures h)) (rw (c.in_ok-duplicate.ensures, c.in_ok-name.ensures.value) at (c.sync.ensures h))
