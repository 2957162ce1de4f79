use Rattle.std.proofs.Common.{refl}
use Rattle.file_plans.proofs.Following.{done, no_room}
use Rattle.inc_plans.proofs.Telling.{told_line, told_not}
use Rattle.inc_command.proofs.heading.tell_heading.Goals as goal

pub returns-then-silent : goal.returns-then-silent
returns-then-silent g c = λ run h f. rw c.if-silent.true done

pub returns-in_err-text : goal.returns-in_err-text
returns-in_err-text g c = λ run h f. no_room _ c.from_residual.ensures refl

pub returns-in_err-say : goal.returns-in_err-say
returns-in_err-say g c = λ run h f. rw c.if-silent.false (told_not _ _ _ _ _ (rw (c.as_slice.ensures, c.in_ok-text.ensures) at (c.in_err-say.ensures run h f)) c.from_residual-in_err-say.ensures)

pub returns : goal.returns
returns g c = λ run h f. rw c.if-silent.false (told_line _ _ _ (rw (c.as_slice.ensures, c.in_ok-text.ensures) at (c.in_ok-say.ensures run h f)))
