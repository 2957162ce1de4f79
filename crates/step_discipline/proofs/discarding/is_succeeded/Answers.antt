use Rattle.std.proofs.Common.{refl}
use Rattle.step_discipline.proofs.discarding.is_succeeded.Goals as goal

pub returns-in-None : goal.returns-in-None
returns-in-None c = (λ t bytes r. absurd (c.in-None.ensures bytes r), λ h. refl)
