use Rattle.file_plans.proofs.Following.{go, stop}
use Rattle.opening_plans.specs.Opening.{settled_read}
use Rattle.opened_folders.proofs.beginning.read_settled.Goals as goal

pub returns-in_err-clear-clause-plan : goal.returns-in_err-clear-clause-plan
unfolding settled_read
returns-in_err-clear-clause-plan g c = stop _ (rw (c.run.ensures, c.names.ensures) at (c.in_err-clear.ensures c.args.hand.now.kept)) c.from_residual.ensures

pub returns-in_err-sequences-clause-plan : goal.returns-in_err-sequences-clause-plan
unfolding settled_read
returns-in_err-sequences-clause-plan g c = go _ (rw (c.run.ensures, c.names.ensures) at (c.in_ok-clear.ensures c.args.hand.now.kept)) (stop _ c.in_err-sequences.ensures.plan c.from_residual-in_err-sequences.ensures)

pub returns-clause-plan : goal.returns-clause-plan
unfolding settled_read
returns-clause-plan g c =
    go _ (rw (c.run.ensures, c.names.ensures) at (c.in_ok-clear.ensures c.args.hand.now.kept))
    (go _ c.in_ok-sequences.ensures.plan (rw (c.in_ok-sequences.ensures.same.0, c.in_ok-sequences.ensures.same.1) at c.cut_marks.ensures.plan))
