use Rattle.std.proofs.Common.{refl}
use Rattle.file_plans.proofs.Following.{no_room}
use Rattle.opened_folders.proofs.reading.read_entries.Goals as goal

pub returns-in_err-duplicate : goal.returns-in_err-duplicate
returns-in_err-duplicate g c = λ h. no_room _ c.from_residual.ensures refl

pub returns : goal.returns
returns g c = λ h. rw c.in_ok-duplicate.ensures at (c.read_context.ensures h)
