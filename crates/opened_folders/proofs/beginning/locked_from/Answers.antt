use Rattle.std.proofs.Common.{refl}
use Rattle.file_plans.proofs.Following.{done, refuses, no_room}
use Rattle.opened_folders.proofs.beginning.locked_from.Goals as goal

pub returns-in-Done : goal.returns-in-Done
returns-in-Done c = λ run x. rw c.in-Done.is done

pub returns-in_err-duplicate-in-Busy : goal.returns-in_err-duplicate-in-Busy
returns-in_err-duplicate-in-Busy c = λ run x. no_room _ c.from_residual.ensures refl

pub returns-in_ok-duplicate-in-Busy : goal.returns-in_ok-duplicate-in-Busy
returns-in_ok-duplicate-in-Busy c = λ run x. rw (c.in-Busy.is, c.in_ok-duplicate-in-Busy.ensures) (refuses _ refl)

pub returns-in_err-duplicate-in-Gone : goal.returns-in_err-duplicate-in-Gone
returns-in_err-duplicate-in-Gone c = λ run x. no_room _ c.from_residual-in_err-duplicate-in-Gone.ensures refl

pub returns-in_ok-duplicate-in-Gone : goal.returns-in_ok-duplicate-in-Gone
returns-in_ok-duplicate-in-Gone c = λ run x. rw (c.in-Gone.is, c.in_ok-duplicate-in-Gone.ensures) (refuses _ refl)
