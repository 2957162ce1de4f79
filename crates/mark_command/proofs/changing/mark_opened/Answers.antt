use Rattle.file_plans.proofs.Following.{go, stop, whole}
use Rattle.told_folders.specs.Plans.{opened_told}
use Rattle.mark_command.proofs.changing.mark_opened.Goals as goal

pub returns-in_err-opened-clause-plan : goal.returns-in_err-opened-clause-plan
unfolding opened_told
returns-in_err-opened-clause-plan g c = stop _ (whole c.in_err-opened.ensures.plan) c.from_residual.ensures

pub returns-in_err-say_if-clause-plan : goal.returns-in_err-say_if-clause-plan
unfolding opened_told
returns-in_err-say_if-clause-plan g c = go _ (whole c.in_ok-opened.ensures.plan) (stop _ (rw c.sequences.ensures at (c.in_err-say_if.ensures c.args.hand.now.run c.mark_chosen.new.hand.kept (g.F.Files.state c.mark_chosen.new.files))) c.from_residual-in_err-say_if.ensures)

pub returns-clause-plan : goal.returns-clause-plan
unfolding opened_told
returns-clause-plan g c =
    go _ (whole c.in_ok-opened.ensures.plan)
    (go _ (rw c.sequences.ensures at (c.in_ok-say_if.ensures c.args.hand.now.run c.mark_chosen.new.hand.kept (g.F.Files.state c.mark_chosen.new.files))) (whole (rw (c.in_ok-opened.ensures.run, c.in_ok-opened.ensures.mail) at c.make_current.ensures.plan)))
