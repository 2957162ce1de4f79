use Rattle.file_plans.proofs.Following.{done, go, stop}
use Rattle.mhstore_plans.specs.Files.{file_replaced}
use Rattle.mhstore_command.proofs.linking.put_file.Goals as goal

pub returns-in_err-replace_file-clause-plan : goal.returns-in_err-replace_file-clause-plan
unfolding file_replaced
returns-in_err-replace_file-clause-plan g c = stop _ c.in_err-replace_file.ensures.plan c.from_residual.ensures

pub returns-clause-plan : goal.returns-clause-plan
unfolding file_replaced
returns-clause-plan g c = go _ c.in_ok-replace_file.ensures.plan done
