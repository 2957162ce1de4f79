use Rattle.std.proofs.Common.{refl}
use Rattle.file_plans.proofs.Following.{done, refuses, no_room}
use Rattle.step_plans.proofs.context.entries_from.Goals as goal

pub returns-in_err-read-in-Content : goal.returns-in_err-read-in-Content
returns-in_err-read-in-Content c = λ run x. no_room _ c.from_residual.ensures refl

pub returns-in_ok-read-in-Content : goal.returns-in_ok-read-in-Content
returns-in_ok-read-in-Content c = λ run x. rw (c.in-Content.is, c.in_ok-read-in-Content.ensures, c.as_slice.ensures) done

pub returns-in-Long : goal.returns-in-Long
returns-in-Long c = λ run x. rw c.in-Long.is (refuses _ refl)

pub returns-in-Gone : goal.returns-in-Gone
returns-in-Gone c = λ run x. rw (c.in-Gone.is, c.new.ensures) done
