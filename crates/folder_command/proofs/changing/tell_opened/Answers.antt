use Rattle.file_plans.proofs.Following.{go, stop, whole}
use Rattle.told_folders.specs.Plans.{opened_told}
use Rattle.folder_command.proofs.changing.tell_opened.Goals as goal

pub returns-in_err-opened-clause-plan : goal.returns-in_err-opened-clause-plan
unfolding opened_told
returns-in_err-opened-clause-plan g c = stop _ (whole c.in_err-opened.ensures.plan) c.from_residual.ensures

pub returns-in_err-say_summary-clause-plan : goal.returns-in_err-say_summary-clause-plan
unfolding opened_told
returns-in_err-say_summary-clause-plan g c =
    go _ (whole c.in_ok-opened.ensures.plan)
    (stop _ (rw (c.listing.ensures, c.sequences.ensures) at (c.in_err-say_summary.ensures c.args.hand.now.run c.set_current.new.hand.kept (g.F.Files.state c.set_current.new.files))) c.from_residual-in_err-say_summary.ensures)

pub returns-clause-plan : goal.returns-clause-plan
unfolding opened_told
returns-clause-plan g c =
    go _ (whole c.in_ok-opened.ensures.plan)
    (go _ (rw (c.listing.ensures, c.sequences.ensures) at (c.in_ok-say_summary.ensures c.args.hand.now.run c.set_current.new.hand.kept (g.F.Files.state c.set_current.new.files)))
    (whole (rw (c.in_ok-opened.ensures.run, c.in_ok-opened.ensures.mail) at c.make_current.ensures.plan)))
