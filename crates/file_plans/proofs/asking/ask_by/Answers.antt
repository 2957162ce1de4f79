use Rattle.std.proofs.Common.{rules, ◌≡◌, Err, refl}
use Rattle.file_plans.specs.declared.asking.Stop.TheVariants.{Memory}
use Rattle.file_plans.proofs.Following.{asked, failed, unasked}
use Rattle.file_plans.proofs.asking.ask_by.Goals as goal

pub returns-in_err-answer-clause-plan : goal.returns-in_err-answer-clause-plan
returns-in_err-answer-clause-plan g c =
    let same : c.from_residual.result ≡ Err Memory = search rules in
    λ h. rw same (unasked _ _ _ _ _ _ _ c.in_err-answer.ensures.step c.in_err-answer.ensures.cause refl)

pub returns-in-Failed-clause-plan : goal.returns-in-Failed-clause-plan
returns-in-Failed-clause-plan g c = λ h. failed _ _ _ _ _ _ _ _ c.in_ok-answer.ensures.step c.in_ok-answer.ensures.row c.in_ok-answer.ensures.cause c.in-Failed.is refl

pub returns-in_default-clause-plan : goal.returns-in_default-clause-plan
returns-in_default-clause-plan g c = λ h. asked _ _ _ _ _ _ _ c.in_ok-answer.ensures.step c.in_ok-answer.ensures.row c.in_ok-answer.ensures.cause c.in_default.not-Failed
