use Rattle.std.proofs.Common.{refl}
use Rattle.file_plans.proofs.Following.{done, go_from, no_room, stop_from}
use Rattle.draft_files.specs.Replacing.{draft_replaced}
use Rattle.draft_files.proofs.Causes.{work_same}
use Rattle.draft_files.proofs.replacing.replace_draft.Goals as goal

pub returns-in_err-name-clause-plan : goal.returns-in_err-name-clause-plan
returns-in_err-name-clause-plan g c = no_room _ c.from_residual.ensures refl

pub returns-in-Ok-clause-plan : goal.returns-in-Ok-clause-plan
unfolding draft_replaced
returns-in-Ok-clause-plan g c = go_from _ _ c.in-Ok.ensures.plan done

pub returns-in-Err-clause-plan : goal.returns-in-Err-clause-plan
unfolding draft_replaced
returns-in-Err-clause-plan g c = stop_from _ (work_same _) c.in-Err.ensures.plan (refl, rw (c.in_ok-name.ensures, c.name.ensures.value) at c.fault_at.ensures)
