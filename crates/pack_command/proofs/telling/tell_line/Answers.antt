use Rattle.file_plans.proofs.Following.{go, stop, whole}
use Rattle.pack_plans.specs.Pack.{line_told}
use Rattle.pack_command.proofs.telling.tell_line.Goals as goal

pub returns-in_err-say_line-clause-plan : goal.returns-in_err-say_line-clause-plan
unfolding line_told
returns-in_err-say_line-clause-plan g c =
    stop _ (c.in_err-say_line.ensures c.args.hand.now.run c.args.hand.now.kept (g.F.Files.state c.args.files.now)) c.from_residual.ensures

pub returns-clause-plan : goal.returns-clause-plan
unfolding line_told
returns-clause-plan g c =
    go _ (c.in_ok-say_line.ensures c.args.hand.now.run c.args.hand.now.kept (g.F.Files.state c.args.files.now)) (whole c.make_current.ensures.plan)
