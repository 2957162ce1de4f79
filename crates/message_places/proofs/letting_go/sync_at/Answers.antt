use Rattle.std.proofs.Common.{refl}
use Rattle.mh_base.specs.Entries.{entry_text}
use Rattle.file_plans.proofs.Following.{no_room}
use Rattle.message_places.proofs.letting_go.sync_at.Goals as goal

pub returns-in_err-name : goal.returns-in_err-name
returns-in_err-name g c = λ h. no_room _ c.from_residual.ensures refl

pub returns : goal.returns
unfolding entry_text
returns g c = λ h. rw c.in_ok-name.ensures.value at (c.sync.ensures h)
