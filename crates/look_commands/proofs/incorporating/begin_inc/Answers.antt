use Rattle.file_plans.proofs.Following.{go, stop, whole}
use Rattle.command_plans.specs.Command.{inc_begun}
use Rattle.look_commands.proofs.incorporating.begin_inc.Goals as goal

pub returns-in_err-enter_context : goal.returns-in_err-enter_context
unfolding inc_begun
returns-in_err-enter_context g c = stop _ (whole c.in_err-enter_context.ensures.plan) c.from_residual.ensures

pub returns-in_err-find_look : goal.returns-in_err-find_look
unfolding inc_begun
returns-in_err-find_look g c =
    go _ (whole c.in_ok-enter_context.ensures.plan)
    (stop _ (whole (rw (c.run.ensures, c.in_ok-enter_context.ensures.run) at (c.in_err-find_look.ensures c.enter_context.new.hand.kept))) c.from_residual-in_err-find_look.ensures)

pub returns : goal.returns
unfolding inc_begun
returns g c =
    go _ (whole c.in_ok-enter_context.ensures.plan)
    (go _ (whole (rw (c.run.ensures, c.in_ok-enter_context.ensures.run) at (c.in_ok-find_look.ensures c.enter_context.new.hand.kept)))
    (rw (c.in_ok-enter_context.ensures.run, c.in_ok-enter_context.ensures.mail) at c.inc.ensures.plan))
