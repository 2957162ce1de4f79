use Rattle.step_plans.proofs.Kept.{loses_nothing}
use Rattle.step_plans.proofs.Once.{mail_invariant}
use Rattle.step_plans.proofs.laws.no_loss.Goals as goal

pub returns : goal.returns
returns c = record { invariant = mail_invariant; kept = loses_nothing }
