use Rattle.std.proofs.Common.{refl}
use Rattle.file_plans.proofs.Following.{done, go, refuses, stop}
use Rattle.message_puts.specs.Putting.{numbered}
use Rattle.message_puts.proofs.putting.number.Goals as goal

pub returns-in_err-number : goal.returns-in_err-number
unfolding numbered
returns-in_err-number g c = λ h. stop _ (c.in_err-number.ensures h) c.from_residual.ensures

pub returns-in-Some : goal.returns-in-Some
unfolding numbered
returns-in-Some g c = λ h. go _ (c.in_ok-number.ensures h) (rw c.in-Some.is done)

pub returns-in-None : goal.returns-in-None
unfolding numbered
returns-in-None g c = λ h. go _ (c.in_ok-number.ensures h) (rw c.in-None.is (refuses _ refl))
