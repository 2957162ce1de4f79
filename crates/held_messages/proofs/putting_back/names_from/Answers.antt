use Rattle.std.proofs.Common.{refl}
use Rattle.file_plans.proofs.Following.{done, refuses, no_room}
use Rattle.held_messages.proofs.putting_back.names_from.Goals as goal

pub returns-in-Names : goal.returns-in-Names
returns-in-Names c = λ run x. rw c.in-Names.is done

pub returns-in_err-duplicate-in-Gone : goal.returns-in_err-duplicate-in-Gone
returns-in_err-duplicate-in-Gone c = λ run x. no_room _ c.from_residual.ensures refl

pub returns-in_ok-duplicate-in-Gone : goal.returns-in_ok-duplicate-in-Gone
returns-in_ok-duplicate-in-Gone c = λ run x. rw (c.in-Gone.is, c.in_ok-duplicate-in-Gone.ensures) (refuses _ refl)
