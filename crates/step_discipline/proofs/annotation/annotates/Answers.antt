use Rattle.std.proofs.Common.{rules, sym, ◌∙◌}
use Rattle.std.proofs.lemmas.List.{append_cancel_right}
use Rattle.step_discipline.proofs.Found.{found_iff, missing_iff}
use Rattle.step_discipline.proofs.annotation.annotates.Goals as goal

pub returns-in-Some : goal.returns-in-Some
returns-in-Some c =
    found_iff _ _ c.in-Some.text.now _ c.in-Some.ensures (λ y e. append_cancel_right y c.in-Some.text.now c.args.bytes.now (sym e ∙ c.in-Some.ensures)) (search rules)

pub returns-in-None : goal.returns-in-None
returns-in-None c = missing_iff _ _ _ c.in-None.ensures (search rules)
