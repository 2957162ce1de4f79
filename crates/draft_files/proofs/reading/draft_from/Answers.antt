use Rattle.std.proofs.Common.{refl}
use Rattle.file_plans.proofs.Following.{done, no_room, refuses}
use Rattle.draft_files.proofs.reading.draft_from.Goals as goal

pub returns-in-Content : goal.returns-in-Content
returns-in-Content c = λ run x. rw c.in-Content.is done

pub returns-in-Long : goal.returns-in-Long
returns-in-Long c = λ run x. rw c.in-Long.is (refuses _ refl)

pub returns-in_err-in_work-in-Gone : goal.returns-in_err-in_work-in-Gone
returns-in_err-in_work-in-Gone c = λ run x. no_room _ c.from_residual.ensures refl

pub returns-in_ok-in_work-in-Gone : goal.returns-in_ok-in_work-in-Gone
returns-in_ok-in_work-in-Gone c = λ run x. rw (c.in-Gone.is, c.in_ok-in_work-in-Gone.ensures) (refuses _ refl)
