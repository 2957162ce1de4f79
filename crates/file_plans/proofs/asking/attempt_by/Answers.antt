use Rattle.std.proofs.Common.{rules, ◌≡◌, Err, refl}
use Rattle.file_plans.specs.declared.asking.Stop.TheVariants.{Memory}
use Rattle.file_plans.proofs.Following.{attempted, unasked}
use Rattle.file_plans.proofs.asking.attempt_by.Goals as goal

pub returns-in_err-act : goal.returns-in_err-act
returns-in_err-act g c =
    let same : c.from_residual.result ≡ Err Memory = search rules in
    λ h. rw same (unasked _ _ _ _ _ _ _ c.in_err-act.ensures.step c.in_err-act.ensures.cause refl)

pub returns : goal.returns
returns g c = λ h. attempted _ _ _ _ _ _ _ c.in_ok-act.ensures.step c.in_ok-act.ensures.row c.in_ok-act.ensures.cause
