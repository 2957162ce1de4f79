use Rattle.file_plans.proofs.Following.{done, go, stop}
use Rattle.draft_contents.specs.Wants.{file_given}
use Rattle.draft_contents.proofs.files.give_file.Goals as goal

pub returns-in_err-bytes : goal.returns-in_err-bytes
unfolding file_given
returns-in_err-bytes g c = λ h. stop _ (c.in_err-bytes.ensures h) c.from_residual.ensures

pub returns : goal.returns
unfolding file_given
returns g c = λ h. go _ (c.in_ok-bytes.ensures h) done
