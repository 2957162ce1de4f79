use Rattle.std.proofs.Common.{refl}
use Rattle.file_plans.proofs.Following.{no_room, refuses}
use Rattle.mhlist_command.proofs.rows.list.Goals as goal

pub returns-in-Long : goal.returns-in-Long
returns-in-Long g c = λ run h f. rw c.in-Long.is (refuses _ refl)

pub returns-in_err-message_gone-in-Gone : goal.returns-in_err-message_gone-in-Gone
returns-in_err-message_gone-in-Gone g c = λ run h f. no_room _ c.from_residual.ensures refl

pub returns-in_ok-message_gone-in-Gone : goal.returns-in_ok-message_gone-in-Gone
returns-in_ok-message_gone-in-Gone g c = λ run h f. rw (c.in-Gone.is, c.in_ok-message_gone-in-Gone.ensures) (refuses _ refl)
