use Rattle.std.proofs.Common.{refl}
use Rattle.file_plans.proofs.Following.{no_room_at}
use Rattle.step_plans.proofs.Naming.{named_memory, named_gives}
use Rattle.step_plans.proofs.writing.next_name.Goals as goal

pub returns-in_default : goal.returns-in_default
returns-in_default c = λ f. rw c.in_default.ensures.1 (no_room_at refl)

pub returns-in_err-entry_name : goal.returns-in_err-entry_name
returns-in_err-entry_name c = λ f. named_memory _ _ _ _ _ c.in-Some.ensures.1 c.in-Some.ensures.2 c.from_residual.ensures

pub returns : goal.returns
returns c = λ f. named_gives _ _ _ _ _ _ c.in-Some.ensures.0 c.in-Some.ensures.1 c.in-Some.ensures.2 c.in_ok-entry_name.ensures.value
