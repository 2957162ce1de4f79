use Rattle.std.proofs.Common.{refl, ap}
use Rattle.file_plans.proofs.Following.{go, stop, no_room}
use Rattle.command_plans.specs.Command.{context_entered}
use Rattle.command_plans.proofs.Plans.{context_known}
use Rattle.command_context.proofs.current.enter_context.Goals as goal

pub returns-in_err-duplicate-clause-plan : goal.returns-in_err-duplicate-clause-plan
returns-in_err-duplicate-clause-plan g c = no_room _ c.from_residual.ensures refl

pub returns-in_err-name-clause-plan : goal.returns-in_err-name-clause-plan
returns-in_err-name-clause-plan g c = no_room _ c.from_residual-in_err-name.ensures refl

pub returns-in_err-text-clause-plan : goal.returns-in_err-text-clause-plan
unfolding context_entered
returns-in_err-text-clause-plan g c = stop _ (rw (c.in_ok-duplicate.ensures, c.mail.ensures, c.in_ok-name.ensures, c.run.ensures) at (c.in_err-text.ensures c.args.hand.now.kept)) c.from_residual-in_err-text.ensures

pub returns-in_err-read-clause-plan : goal.returns-in_err-read-clause-plan
unfolding context_entered
returns-in_err-read-clause-plan g c = go _ (rw (c.in_ok-duplicate.ensures, c.mail.ensures, c.in_ok-name.ensures, c.run.ensures) at (c.in_ok-text.ensures c.args.hand.now.kept)) (no_room _ c.from_residual-in_err-read.ensures refl)

pub returns-clause-plan : goal.returns-clause-plan
unfolding context_entered
returns-clause-plan g c =
    go _ (rw (c.in_ok-duplicate.ensures, c.mail.ensures, c.in_ok-name.ensures, c.run.ensures) at (c.in_ok-text.ensures c.args.hand.now.kept))
    (rw (c.in_ok-read.ensures, c.as_slice.ensures) at (context_known c.args.hand.now.run c.in_ok-read.field-0 c.args.hand.now.kept c.saw_context.new.self.kept (g.F.Files.state c.read_text.new.files) (ap (λ r. r.kept) c.saw_context.ensures)))
