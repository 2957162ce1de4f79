use Rattle.std.proofs.Common.{refl}
use Rattle.file_plans.proofs.Following.{done, go_from, refuses, stop_from}
use Rattle.command_stages.proofs.Causes.{sink_same}
use Rattle.told_folders.specs.Plans.{lines_said}
use Rattle.mhstore_command.proofs.filing.tell.Goals as goal

pub returns-in_err-say : goal.returns-in_err-say
unfolding lines_said
returns-in_err-say g c = λ run h f. rw c.if-free.true (stop_from _ sink_same (rw c.as_slice.ensures at (c.in_err-say.ensures run h f)) c.from_residual.ensures)

pub returns-in_ok-say : goal.returns-in_ok-say
unfolding lines_said
returns-in_ok-say g c = λ run h f. rw c.if-free.true (go_from _ _ (rw c.as_slice.ensures at (c.in_ok-say.ensures run h f)) done)

pub returns-else-free : goal.returns-else-free
returns-else-free g c = λ run h f. rw c.if-free.false (refuses _ refl)
