use Rattle.std.proofs.Common.{rules}
use Rattle.step_discipline.proofs.Discards.{discard_there, discard_not}
use Rattle.step_discipline.proofs.discarding.may_discard.Goals as goal

pub returns-then-is_kept_back : goal.returns-then-is_kept_back
returns-then-is_kept_back c = discard_there _ _ _ _ _ (search rules) (search rules)

pub returns-else-is_kept_back : goal.returns-else-is_kept_back
returns-else-is_kept_back c = discard_not _ _ _ _ _ (search rules) (search rules)
