use Rattle.std.proofs.Common.{refl}
use Rattle.file_plans.proofs.Following.{go, no_room, stop}
use Rattle.refile_plans.specs.Rmm.{removed_safely}
use Rattle.refile_command.proofs.removing.remove_safely.Goals as goal

pub returns-in_err-name : goal.returns-in_err-name
returns-in_err-name g c = λ h. no_room _ c.from_residual.ensures refl

pub returns-in_err-remove_all : goal.returns-in_err-remove_all
unfolding removed_safely
returns-in_err-remove_all g c = λ h. stop _ (c.in_err-remove_all.ensures h) c.from_residual-in_err-remove_all.ensures

pub returns : goal.returns
unfolding removed_safely
returns g c = λ h. go _ (c.in_ok-remove_all.ensures h) (rw c.in_ok-name.ensures.value at (c.sync.ensures h))
