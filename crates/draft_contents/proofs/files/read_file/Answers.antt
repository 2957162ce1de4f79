use Rattle.file_plans.proofs.Following.{go_from, stop_from}
use Rattle.command_stages.proofs.Causes.{stop_same}
use Rattle.draft_contents.specs.Files.{file_read}
use Rattle.draft_contents.proofs.files.read_file.Goals as goal

pub returns-in_err-reading : goal.returns-in_err-reading
unfolding file_read
returns-in_err-reading g c = λ h. stop_from _ stop_same (c.in_err-reading.ensures h) c.from_residual.ensures

pub returns : goal.returns
unfolding file_read
returns g c = λ h. go_from _ _ (c.in_ok-reading.ensures h) (c.file_from.ensures _ _)
