use Rattle.std.proofs.Common.{◌≡◌, [], refl, subst, ap, ◌∙◌}
use Rattle.std.specs.Prelude.{IfOk}
use Rattle.std.specs.Str.{chars}
use Rattle.mail_text.proofs.Fronts.{all_valid}
use Rattle.mail_text.proofs.shown_bytes.show.Goals as goal

pub returns-in-Ok : goal.returns-in-Ok
returns-in-Ok c =
    subst (λ x. IfOk c.from_str.result (λ t. t ≡ x)) (ap chars c.in-Ok.ensures.cases.0 ∙ all_valid c.args.bytes.now [] _ _ c.in-Ok.ensures.cases.1 refl refl) c.from_str.ensures
