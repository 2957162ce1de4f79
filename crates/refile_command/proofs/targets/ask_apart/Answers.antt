use Rattle.std.proofs.Common.{refl, sym, ◌∙◌}
use Rattle.file_plans.proofs.Following.{done, no_room, refuses, same_plan}
use Rattle.refile_plans.proofs.NamedTargets.{apart_is, not_apart}
use Rattle.refile_command.proofs.targets.ask_apart.Goals as goal

pub returns-in_err-duplicate : goal.returns-in_err-duplicate
returns-in_err-duplicate c = λ run x. no_room _ c.from_residual.ensures refl

pub returns-then-names_source : goal.returns-then-names_source
returns-then-names_source c = λ run x. same_plan _ _ (not_apart _ _ (sym c.names_source.ensures ∙ c.if-names_source.true)) (rw c.in_ok-duplicate.ensures (refuses _ refl))

pub returns : goal.returns
returns c = λ run x. same_plan _ _ (apart_is _ _ (sym c.names_source.ensures ∙ c.if-names_source.false)) done
