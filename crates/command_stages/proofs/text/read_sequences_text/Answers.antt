use Rattle.std.proofs.Common.{refl}
use Rattle.file_plans.proofs.Following.{no_room}
use Rattle.command_stages.proofs.text.read_sequences_text.Goals as goal

pub returns-in_err-name : goal.returns-in_err-name
returns-in_err-name g c = λ h. no_room _ c.from_residual.ensures refl

pub returns : goal.returns
returns g c = λ h. rw c.in_ok-name.ensures.value at (c.read_text.ensures h)
