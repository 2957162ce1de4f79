use Rattle.std.proofs.Common.{rules}
use Rattle.std.proofs.lemmas.Result.{IfOk-weaker}
use Rattle.folder_files.proofs.Kinding.{careful_kind}
use Rattle.step_discipline.proofs.rules.may_step.Goals as goal

pub returns : goal.returns
returns c = IfOk-weaker c.may_change.result _ _ (λ b e. careful_kind c.args.run _ _ c.args.step.now _ (search rules) (search rules) (search rules) e) c.may_change.ensures
