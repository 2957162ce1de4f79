use Rattle.file_plans.specs.Follows.{by_hand}
use Rattle.file_plans.proofs.Following.{go_from, stop_from}
use Rattle.command_stages.proofs.Causes.{stop_same}
use Rattle.draft_files.specs.Drafts.{draft_read}
use Rattle.draft_files.proofs.reading.read_draft.Goals as goal

pub returns-in_err-reading : goal.returns-in_err-reading
unfolding draft_read
returns-in_err-reading g c = λ h. stop_from _ stop_same (rw c.name.ensures.value at (c.in_err-reading.ensures h)) c.from_residual.ensures

pub returns : goal.returns
unfolding draft_read
returns g c = λ h. go_from _ _ (rw c.name.ensures.value at (c.in_ok-reading.ensures h)) (rw c.name-2.ensures.value at (c.draft_from.ensures c.args.run (by_hand h (g.F.Files.state c.ask_read.new.files))))
