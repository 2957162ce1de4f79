use Rattle.std.proofs.Common.{refl}
use Rattle.step_discipline.proofs.discarding.is_successor_synced.Goals as goal

pub returns-in-None : goal.returns-in-None
returns-in-None c = (λ t q s. absurd (c.in-None.ensures q s.0 s.1), λ h. refl)
