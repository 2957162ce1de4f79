use Rattle.file_plans.proofs.Following.{go, stop}
use Rattle.opening_plans.specs.Opening.{locked_begun}
use Rattle.opened_folders.proofs.beginning.begin_locked.Goals as goal

pub returns-in_err-make_mail-clause-plan : goal.returns-in_err-make_mail-clause-plan
unfolding locked_begun
returns-in_err-make_mail-clause-plan g c = stop _ (rw (c.run.ensures, c.mail.ensures) at (c.in_err-make_mail.ensures c.args.hand.now.kept)) c.from_residual.ensures

pub returns-in_err-settled-clause-plan : goal.returns-in_err-settled-clause-plan
unfolding locked_begun
returns-in_err-settled-clause-plan g c = go _ (rw (c.run.ensures, c.mail.ensures) at (c.in_ok-make_mail.ensures c.args.hand.now.kept)) (stop _ (rw c.run-2.ensures at (c.in_err-settled.ensures.plan c.args.hand.now.kept)) c.from_residual-in_err-settled.ensures)

pub returns-clause-plan : goal.returns-clause-plan
unfolding locked_begun
returns-clause-plan g c = go _ (rw (c.run.ensures, c.mail.ensures) at (c.in_ok-make_mail.ensures c.args.hand.now.kept)) (go _ (rw c.run-2.ensures at (c.in_ok-settled.ensures.plan c.args.hand.now.kept)) c.read_settled.ensures.plan)
