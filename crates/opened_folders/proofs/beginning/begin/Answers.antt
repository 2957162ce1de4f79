use Rattle.std.proofs.Common.{refl}
use Rattle.file_plans.proofs.Following.{no_room}
use Rattle.opening_plans.proofs.FolderAlone.{begins_if}
use Rattle.opened_folders.proofs.beginning.begin.Goals as goal

pub returns-in_err-duplicate-clause-plan : goal.returns-in_err-duplicate-clause-plan
returns-in_err-duplicate-clause-plan g c = no_room _ c.from_residual.ensures refl

pub returns-in_err-duplicate-2-clause-plan : goal.returns-in_err-duplicate-2-clause-plan
returns-in_err-duplicate-2-clause-plan g c = no_room _ c.from_residual-in_err-duplicate-2.ensures refl

pub returns-clause-plan : goal.returns-clause-plan
returns-clause-plan g c = rw (c.in_ok-duplicate.ensures, c.in_ok-duplicate-2.ensures, c.mail.ensures) at c.begin_at.ensures.plan

pub returns-clause-alone : goal.returns-clause-alone
returns-clause-alone g c = begins_if _ _ _ _ _ _ (returns-clause-plan g c)
