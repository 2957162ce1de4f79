use Rattle.step_plans.proofs.TempNames.{is_cleared, is_passed}
use Rattle.step_plans.proofs.clearing.clear_one.Goals as goal

pub returns-then-is_temp : goal.returns-then-is_temp
returns-then-is_temp g c = λ h. is_cleared _ _ _ _ c.is_temp.ensures c.if-is_temp.true (c.unlink.ensures h)

pub returns-else-is_temp : goal.returns-else-is_temp
returns-else-is_temp g c = λ h. is_passed _ _ _ _ c.is_temp.ensures c.if-is_temp.false
