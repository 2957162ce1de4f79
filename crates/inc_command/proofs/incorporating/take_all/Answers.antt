use Rattle.file_plans.proofs.Following.{go, stop}
use Rattle.inc_plans.specs.Inc.{told_taken}
use Rattle.inc_command.proofs.incorporating.take_all.Goals as goal

pub returns-in_err-tell_heading-clause-plan : goal.returns-in_err-tell_heading-clause-plan
unfolding told_taken
returns-in_err-tell_heading-clause-plan g c = stop _ (c.in_err-tell_heading.ensures c.args.hand.now.run c.args.hand.now.kept (g.F.Files.state c.args.files.now)) c.from_residual.ensures

pub returns-clause-plan : goal.returns-clause-plan
unfolding told_taken
returns-clause-plan g c =
    go _ (c.in_ok-tell_heading.ensures c.args.hand.now.run c.args.hand.now.kept (g.F.Files.state c.args.files.now)) (rw (c.place.ensures, c.highest-highest.ensures.value, c.listing.ensures, c.sequences.ensures, c.has_unseen.ensures) at c.take_drop.ensures.plan)
