use Rattle.file_plans.proofs.Following.{go_from, stop_from}
use Rattle.command_stages.specs.Listed.{folder_listed}
use Rattle.command_stages.proofs.Causes.{stop_same}
use Rattle.command_stages.proofs.listed.list_folder.Goals as goal

pub returns-in_err-listing : goal.returns-in_err-listing
unfolding folder_listed
returns-in_err-listing g c = λ h. stop_from _ stop_same (c.in_err-listing.ensures h) c.from_residual.ensures

pub returns : goal.returns
unfolding folder_listed
returns g c = λ h. go_from _ _ (c.in_ok-listing.ensures h) (c.names_from.ensures _ _)
